-- What the rows of a configuration give to a plan, by names: parts, each whole.
use Rattle.std.specs.Prelude.{ℕ, suc, Bool, true, false, not, ◌&&◌, if◌then◌else◌, List, [], ◌∷◌, ◌++◌, map, Option}
use Rattle.std.specs.{Prelude.{None, Some, codes}, List.{flat_map, list_any}, Str.bytes_eq}
use Rattle.mpf_values.specs.Events.{Event}
use Rattle.mpf_config.specs.Rows.{ModeRows, Rows}
use Rattle.mpf_sections.specs.declared.words.Debounce.{Debounce, TheVariants.{Auto, Quick, Normal}}
use Rattle.mpf_sections.specs.Rows.{WrittenName, Entry, PlayerEntry, Switch, Coil, GameSettings, Shot, ModeSettings}
use Rattle.mpf_sections.specs.{Rows.SectionRows, CoilRules.coil_rule_of}
use Rattle.mpf_sections.specs.Typed.{mode_settings, switches_name, event_player_name, switch_of, event_player_of}
use Rattle.mpf_sections.specs.TypedCoils.{coils_name, coil_player_name, coil_of, coil_player_of}
use Rattle.mpf_sections.specs.TypedGame.{variable_player_name, game_name, variable_player_of, game_of, min_balls_of}
use Rattle.machine_definitions.specs.{Definitions.makes_quick, Shots.Profile}
use Rattle.plan_tables.specs.declared.entries.{ModeId.ModeId, SwitchKind.SwitchKind, CoilLimits.CoilLimits, Owner.Owner}
use Rattle.plan_tables.specs.declared.entries.Owner.TheVariants as owners
use Rattle.plan_tables.specs.declared.{devices.{RowId.RowId, Act.Act}, table.Table.{Table, TheVariants.Switches}}
use Rattle.plan_rows.specs.Seats.{Seat, rows_after_text}
use Rattle.mpf_tables.specs.declared.tables.TextKind.{TextKind, TheVariants.{Machine, Mode}}
use Rattle.plan_rows.specs.Rows.{Row, entry, alone, shot, group, ball_device, player, of_mode, text_rows}
use Rattle.plan_parts.specs.{Effects.{Effect, posts}, VariableEntries.item_change}
use Rattle.plan_parts.specs.BallEntries.{is_known, ball_device_from}
use Rattle.plan_parts.specs.CoilEntries.{limits_of_coil, item_effect, rule_device_of}
use Rattle.plan_parts.specs.ShotEntries.{shot_acts, lone_device, group_device}
pub use Rattle.plan_parts.specs.DeviceEntries.{texts, events, Device, always, device_of}

-- ---- parts

-- The owner of a device or a handler, and the priority of what it binds to events. The row of a device has no priority.
pub record Whose : Type 0 where
  pub owner : Owner
  pub priority : ℕ

-- What a handler does: it runs these effects, as an effect list of its own; or starts a mode, or stops one; or acts on
-- the device in a row, which may come later.
pub data Reaction : Type 0 where
  run : List Effect → Reaction
  start : ModeId → Reaction
  stop : ModeId → Reaction
  act_on : RowId → Act → Reaction

-- One thing that a row gives to the plan, by names:
--
-- - a switch: how it is read, whether a ball that presses it is on the playfield, and what it posts when it becomes
--   active and inactive;
-- - a coil, and what it may be sent;
-- - the game: how many balls have to be at home for it to begin, how many each player has, and how many players there
--   can be;
-- - a mode;
-- - a handler of an event, which may have a condition;
-- - a device, with all that its entry says;
-- - a mention: a name that a setting has, and that no other part of the row says;
-- - unknown: a setting names a profile, a shot or a ball device that nothing has.
pub data Part : Type 0 where
  switch : (name : List ℕ) → SwitchKind → (confirms_playfield : Bool) → (active inactive : List (List ℕ)) → Part
  coil : (name : List ℕ) → CoilLimits → Part
  game : (min_balls balls_per_game max_players : ℕ) → Part
  mode : (name : List ℕ) → ModeSettings → Part
  handler : Whose → Event → Reaction → Part
  device : Whose → Device → Part
  mention : Table → List ℕ → Part
  unknown : Part

-- ---- switches

-- whether a raw level of the switch of this name is accepted at once, and not only after it has lasted 5 ms
abbrev pub is_quick : List SectionRows → List ℕ → Debounce → Bool
is_quick machine name Auto = makes_quick machine name
is_quick machine name Quick = true
is_quick machine name Normal = false

-- how a switch is read
abbrev pub kind_of : List SectionRows → Switch → SwitchKind
kind_of machine s = record { contact = s.contact; quick = is_quick machine s.name.text s.debounce }

-- whether a ball that presses a switch with these tags is on the playfield
abbrev pub confirms : List WrittenName → Bool
confirms tags = list_any (λ t. bytes_eq t.text (codes "playfield_active")) tags

-- the event of a tag
abbrev pub tag_event : WrittenName → List ℕ
tag_event t = codes "sw_" ++ t.text

-- What a switch posts when it becomes active: the event of its own name, those of its tags, and those that its entry
-- names, tags and names as they are written.
abbrev pub active_posts : Switch → List (List ℕ)
active_posts s = (s.name.text ++ codes "_active") ∷ map tag_event s.tags ++ texts s.activation_events

-- what a switch posts when it becomes inactive; its tags have no event then
abbrev pub inactive_posts : Switch → List (List ℕ)
inactive_posts s = (s.name.text ++ codes "_inactive") ∷ texts s.deactivation_events

-- ---- modes

-- whether a mode stops at the end of the ball, and whether it does at the end of the game: at neither if it may hold
-- the end of the ball
abbrev pub stops_at_ball_end : ModeSettings → Bool
stops_at_ball_end s = s.stops_with_ball && not s.holds_ball_end

abbrev pub stops_at_game_end : ModeSettings → Bool
stops_at_game_end s = s.game && not s.holds_ball_end

-- ---- what a row gives

-- the machine, for what the machine text says; the machine at a mode's priority, for what starts and stops the mode;
-- and a mode, for what its text says
abbrev pub own : Whose
own = record { owner = owners.Machine; priority = 0 }

abbrev pub control : ModeSettings → Whose
control s = record { owner = owners.Machine; priority = s.priority }

abbrev pub of_the_mode : ModeId → ModeSettings → Whose
of_the_mode m s = record { owner = owners.Mode m; priority = s.priority }

-- one part or none: if there is this; if this holds; and if this is not known
abbrev pub where_some : {X : Type 0} → (X → Part) → Option X → List Part
where_some part None = []
where_some part (Some x) = part x ∷ []

abbrev pub where_true : Bool → Part → List Part
where_true holds part = if holds then part ∷ [] else []

abbrev pub unknown_unless : Bool → List Part
unknown_unless known = if known then [] else unknown ∷ []

-- the first device, or else the other
abbrev pub first_of : Option Device → Option Device → Option Device
first_of None other = other
first_of (Some d) other = Some d

-- a mode, with what starts it and what stops it: as it is written, then the end of the ball, then that of the game
unfoldable pub mode_parts : ModeId → List ℕ → ModeSettings → List Part
mode_parts m name s =
    mode name s
    ∷ map (λ e. handler (control s) e (start m)) (events s.starts)
    ++ map (λ e. handler (control s) e (stop m)) (events s.stops)
    ++ where_true (stops_at_ball_end s) (handler (control s) (always (codes "ball_ending")) (stop m))
    ++ where_true (stops_at_game_end s) (handler (control s) (always (codes "game_ending")) (stop m))

-- Here `machine` is the sections of the machine text, and `whose` the owner and priority of the text that a row is in.
module _ (machine : List SectionRows) (whose : Whose) where
  -- the device of an entry of the machine text, whatever its kind: a coil rule, or one that any text can have
  abbrev pub machine_device : List ℕ → Entry → Option Device
  machine_device section e = first_of (rule_device_of machine (coil_rule_of section e)) (device_of section e)

  abbrev pub switch_part : Switch → Part
  switch_part s = switch s.name.text (kind_of machine s) (confirms s.tags) (active_posts s) (inactive_posts s)

  abbrev pub coil_part : Coil → Part
  coil_part c = coil c.name.text (limits_of_coil c)

  abbrev pub game_part : GameSettings → Part
  game_part g = game (min_balls_of machine) g.balls_per_game g.max_players

  -- an entry of the machine text, and of any text, by its section: only the machine text has switches, coils and coil
  -- rules
  unfoldable pub machine_entry_parts : List ℕ → Entry → List Part
  machine_entry_parts section e =
      if bytes_eq section coils_name then coil_part (coil_of e) ∷ []
      else (if bytes_eq section switches_name then switch_part (switch_of e) ∷ []
      else where_some (device whose) (machine_device section e))

  unfoldable pub entry_parts : TextKind → List ℕ → Entry → List Part
  entry_parts Machine section e = machine_entry_parts section e
  entry_parts _ section e = where_some (device whose) (device_of section e)

  -- the one entry of a section: only the machine text has a game
  unfoldable pub alone_parts : TextKind → List ℕ → Entry → List Part
  alone_parts Machine section e = where_true (bytes_eq section game_name) (game_part (game_of e))
  alone_parts _ section e = []

  -- an entry of a player: one handler, whose list does what the entry says, in order
  unfoldable pub player_parts : List ℕ → PlayerEntry → List Part
  player_parts section p =
      if bytes_eq section event_player_name
      then handler whose (event_player_of p).event.event (run (map posts (texts (event_player_of p).posts))) ∷ []
      else (if bytes_eq section coil_player_name
      then handler whose (coil_player_of p).event.event (run (map (item_effect machine) (coil_player_of p).items)) ∷ []
      else (if bytes_eq section variable_player_name
      then handler whose (variable_player_of p).event.event (run (map item_change (variable_player_of p).items)) ∷ []
      else []))

  -- what a shot gives after its switch: a device of its own, or, if it has a seat in a group, handlers that act on the
  -- row of the group
  abbrev pub with_seat : Profile → Shot → Option Seat → List Part
  with_seat p s None = device whose (lone_device p s) ∷ []
  with_seat p s (Some seat) = map (λ h. handler whose h.0 (act_on (record { 0 = seat.row }) h.1))
      (shot_acts seat.shot s)

  unfoldable pub row_parts : Row → List Part
  row_parts (entry place section e) = entry_parts place section e
  row_parts (alone place section e) = alone_parts place section e
  row_parts (player place section p) = player_parts section p
  row_parts (shot place s seat known p) = unknown_unless known ++ where_some (λ w. mention Switches w.text) s.switch
      ++ with_seat p s seat
  row_parts (group place g m) = unknown_unless m.all_known ++ device whose (group_device g m) ∷ []
  row_parts (ball_device d to) = unknown_unless (is_known to) ++ device whose (ball_device_from machine d to) ∷ []
  row_parts (of_mode name s) = []

-- ---- all parts, in order: the machine's, then each mode's, which begin with the mode

-- the parts of a text; so many rows of devices come before it
abbrev pub text_parts : Rows → Whose → TextKind → (rows_before : ℕ) → List SectionRows → List Part
text_parts rows whose place n sections = flat_map (row_parts rows.machine whose) (text_rows rows place n sections)

-- the parts of modes; this is the number of the first mode, and so many rows of devices come before it
abbrev pub modes_parts : Rows → (first rows_before : ℕ) → List ModeRows → List Part
modes_parts rows k n [] = []
modes_parts rows k n (m ∷ ms) =
    mode_parts (record { 0 = k }) m.name (mode_settings m.sections)
    ++ text_parts rows (of_the_mode (record { 0 = k }) (mode_settings m.sections)) Mode n m.sections
    ++ modes_parts rows (suc k) (rows_after_text Mode n m.sections) ms

unfoldable pub parts_of : Rows → List Part
parts_of rows = text_parts rows own Machine 0 rows.machine
    ++ modes_parts rows 0 (rows_after_text Machine 0 rows.machine) rows.modes
