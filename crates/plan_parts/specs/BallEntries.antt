-- What the entries of ball devices say. Here `machine` is the sections of the machine text, which have the coils and
-- the game.
use Rattle.std.specs.Prelude.{ℕ, Bool, true, false, ◌&&◌, List, [], ◌∷◌, ◌++◌, length, min, Option, None, Some, is_some}
use Rattle.std.specs.{Prelude.codes, List.list_any, Str.bytes_eq}
use Rattle.mpf_sections.specs.Rows.{WrittenName, BallDeviceEntry, Content, entry, SectionRows}
use Rattle.mpf_sections.specs.{TypedBalls.{is_trough, is_home, is_drain}, TypedGame.game_name}
use Rattle.plan_tables.specs.declared.devices.{BallTarget.BallTarget, Settings.Settings}
use Rattle.plan_tables.specs.declared.devices.BallTarget.TheVariants as targets
use Rattle.plan_tables.specs.declared.devices.Settings.TheVariants as kinds
use Rattle.plan_rows.specs.declared.destination.Destination.{Destination}
use Rattle.plan_rows.specs.declared.destination.Destination.TheVariants as destinations
use Rattle.plan_parts.specs.{CoilEntries.{defaults_called, own_pulse}, DeviceEntries.{texts, Device}}
use Rattle.plan_parts.specs.Effects.{Effect, posts, works, enters, leaves, loses, arrives}

-- ---- the game

abbrev pub is_entry : Content → Bool
is_entry (entry e) = true
is_entry _ = false

-- whether the machine text has a section `game`
abbrev pub is_game : SectionRows → Bool
is_game s = bytes_eq s.name game_name && is_entry s.content

abbrev pub has_game : List SectionRows → Bool
has_game machine = list_any is_game machine

-- whether a ball that enters the device, and was not on its way there, has drained: it is tagged `drain`, and there is
-- a game
abbrev pub drains : List SectionRows → BallDeviceEntry → Bool
drains machine d = is_drain d && has_game machine

-- ---- effect lists

-- an event of the ball device of this name
abbrev pub ball_event : List ℕ → List ℕ → List ℕ
ball_event name ending = codes "balldevice_" ++ name ++ ending

-- how the names of its events end
abbrev pub ball_endings : List (List ℕ)
ball_endings =
    codes "_ball_enter" ∷ codes "_ball_eject_attempt" ∷ codes "_ejecting_ball" ∷ codes "_ball_eject_success"
    ∷ codes "_ball_eject_failed" ∷ []

-- the coil that ejects a ball is pulsed, if there is one
abbrev pub eject_pulse : List SectionRows → Option WrittenName → List Effect
eject_pulse machine None = []
eject_pulse machine (Some w) = works w.text (own_pulse (defaults_called machine w.text)) ∷ []

-- what it does when it attempts to eject a ball
abbrev pub attempt_effects : List SectionRows → List ℕ → Option WrittenName → List Effect
attempt_effects machine name coil =
    posts (ball_event name (codes "_ball_eject_attempt")) ∷ posts (ball_event name (codes "_ejecting_ball"))
    ∷ eject_pulse machine coil

-- what it does after that: when the ball leaves; when a ball is lost; when the ball that it ejected is where it should
-- be; when a ball on its way is on the playfield; and when an attempt fails
abbrev pub later_lists : List ℕ → List (List Effect)
later_lists name =
    (leaves ∷ [])
    ∷ (loses ∷ [])
    ∷ (posts (ball_event name (codes "_ball_eject_success")) ∷ [])
    ∷ (arrives ∷ [])
    ∷ (posts (ball_event name (codes "_ball_eject_failed")) ∷ [])
    ∷ []

-- its effect lists; the first is of a ball that enters it
abbrev pub ball_lists : List SectionRows → BallDeviceEntry → List (List Effect)
ball_lists machine d =
    (enters (ball_event d.name.text (codes "_ball_enter")) (drains machine d) ∷ [])
    ∷ attempt_effects machine d.name.text d.eject_coil
    ∷ later_lists d.name.text

-- the event of a drained ball, if a ball that enters drains
abbrev pub drain_mentions : Bool → List (List ℕ)
drain_mentions true = codes "ball_drain" ∷ []
drain_mentions false = []

-- the events of its first list: of a ball that enters, and of a drained ball
abbrev pub entry_mentions : List ℕ → Bool → List (List ℕ)
entry_mentions name drain = ball_event name (codes "_ball_enter") ∷ drain_mentions drain

-- ---- settings

-- The target, in the plan. There is no plan if a row has a number above 1,023, or if the destination is unknown.
abbrev pub target_of : Destination → BallTarget
target_of destinations.Playfield = targets.Playfield
target_of (destinations.Device row) = targets.Device (record { 0 = min row 65535 })
target_of destinations.Unknown = targets.Playfield

abbrev pub ball_settings : BallDeviceEntry → Destination → Settings
ball_settings d to = kinds.BallDevice (record {
  switches = length d.switches;
  target = target_of to;
  has_coil = is_some d.eject_coil;
  ejects = d.ejects;
  trough = is_trough d;
  home = is_home d;
})

-- ---- devices

-- it listens to its ball switches, in their order; no event acts on it
abbrev pub ball_device_from : List SectionRows → BallDeviceEntry → Destination → Device
ball_device_from machine d to = record {
  settings = ball_settings d to;
  listens = texts d.switches;
  event_acts = [];
  other_mentions = entry_mentions d.name.text (drains machine d);
  lists = ball_lists machine d;
}

-- whether there is such a destination
abbrev pub is_known : Destination → Bool
is_known destinations.Playfield = true
is_known (destinations.Device row) = true
is_known destinations.Unknown = false
