-- The rows of a configuration, in plan order.
use Rattle.std.specs.{Prelude.{ℕ, Bool, if◌then◌else◌, List, [], ◌∷◌, ◌++◌, map, Option}, List.flat_map, Str.bytes_eq}
use Rattle.mpf_sections.specs.Rows.{Entry, PlayerEntry, ModeSettings, Content, entries, players, entry as single}
use Rattle.mpf_sections.specs.Rows.{name_list, SectionRows, Shot, ShotGroup, BallDeviceEntry}
use Rattle.mpf_config.specs.Rows.{ModeRows, Rows}
use Rattle.mpf_sections.specs.{Typed.mode_settings, TypedBalls.{ball_devices_name, ball_device_of}}
use Rattle.mpf_tables.specs.declared.tables.TextKind.{TextKind, TheVariants.{Machine, Mode}}
use Rattle.plan_rows.specs.{declared.destination.Destination.Destination, Members.{Members, members_of}}
use Rattle.mpf_sections.specs.TypedShots.{shots_name, shot_groups_name, shot_of, shot_group_of}
use Rattle.machine_definitions.specs.Shots.{Profile, has_profile, profile_of_name}
use Rattle.plan_rows.specs.Seats.{Seat, seat_of, destination_of, rows_after_text}

-- An entry in the section of this name, or the one that the section is; a shot, with its seat if it has one, whether
-- its profile is known, and its profile; a group, with what is known of its shots; a ball device, which is the
-- machine's, with where it ejects its balls to; or an entry of a player; or a mode by its name, with what its text says
-- of it. Most have the kind of the text that they are in.
pub data Row : Type 0 where
  entry : TextKind → List ℕ → Entry → Row
  alone : TextKind → List ℕ → Entry → Row
  shot : TextKind → Shot → Option Seat → Bool → Profile → Row
  group : TextKind → ShotGroup → Members → Row
  ball_device : BallDeviceEntry → Destination → Row
  player : TextKind → List ℕ → PlayerEntry → Row
  of_mode : List ℕ → ModeSettings → Row

-- Here `seat` says of a name which seat the shot of this name has, if it has one.
module _ (rows : Rows) (place : TextKind) (seat : List ℕ → Option Seat) where
  abbrev pub shot_row : Shot → Row
  shot_row s = shot place s (seat s.name.text) (has_profile rows s.profile.text) (profile_of_name rows s.profile.text)

  abbrev pub group_row : ShotGroup → Row
  group_row g = group place g (members_of rows g)

-- Here `destination` says of a name where balls go that are ejected to what has this name.
module _ (destination : List ℕ → Destination) where
  abbrev pub ball_device_row : BallDeviceEntry → Row
  ball_device_row d = ball_device d (destination d.target.text)

  -- an entry of neither a shot nor a group; ball devices stand in the machine text alone
  abbrev pub other_row : TextKind → List ℕ → Entry → Row
  other_row Machine section e =
      if bytes_eq section ball_devices_name then ball_device_row (ball_device_of e) else entry Machine section e
  other_row Mode section e = entry Mode section e

module _ (rows : Rows) (place : TextKind) (seat : List ℕ → Option Seat) (destination : List ℕ → Destination) where
  -- an entry in the section of this name
  abbrev pub entry_row : List ℕ → Entry → Row
  entry_row section e =
      if bytes_eq section shots_name then shot_row rows place seat (shot_of e)
      else (if bytes_eq section shot_groups_name then group_row rows place seat (shot_group_of e)
      else other_row destination place section e)

  abbrev pub rows_from : List ℕ → Content → List Row
  rows_from name (entries es) = map (entry_row name) es
  rows_from name (players ps) = map (player place name) ps
  rows_from name (single e) = alone place name e ∷ []
  rows_from name (name_list ws) = []

  -- the rows of sections, as written
  abbrev pub rows_in : List SectionRows → List Row
  rows_in sections = flat_map (λ s. rows_from s.name s.content) sections

-- the rows of a text, if so many rows of devices come before it
abbrev pub text_rows : Rows → TextKind → ℕ → List SectionRows → List Row
text_rows rows place n sections = rows_in rows place (seat_of place n sections) (destination_of place n sections)
    sections

-- a mode, and then the rows of its text
abbrev pub mode_rows : Rows → ℕ → ModeRows → List Row
mode_rows rows n m = of_mode m.name (mode_settings m.sections) ∷ text_rows rows Mode n m.sections

-- these modes, one after the other
abbrev pub modes_rows : Rows → ℕ → List ModeRows → List Row
modes_rows rows n [] = []
modes_rows rows n (m ∷ ms) = mode_rows rows n m ++ modes_rows rows (rows_after_text Mode n m.sections) ms

-- the rows of the machine, and then those of one mode after the other
abbrev pub rows_of : Rows → List Row
rows_of rows = text_rows rows Machine 0 rows.machine
    ++ modes_rows rows (rows_after_text Machine 0 rows.machine) rows.modes
