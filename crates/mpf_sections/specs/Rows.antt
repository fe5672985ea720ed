-- The rows of a section, apart from where they lie in memory. The `order` of an entry has the places in the section's
-- table of the settings that are written, in the order in which they are written.
use Rattle.std.specs.Prelude.{ℕ, ℤ, Bool, List, Option}
use Rattle.machine_settings.specs.declared.words.{Contact.Contact, VariableAction.VariableAction}
use Rattle.mpf_sections.specs.declared.words.{Debounce.Debounce, ControlAction.ControlAction, CoilAction.CoilAction}
use Rattle.machine_settings.specs.declared.settings.{BlockSettings.BlockSettings, SaveSettings.SaveSettings}
use Rattle.machine_settings.specs.declared.settings.CounterSettings.{CounterSettings}
use Rattle.machine_settings.specs.declared.settings.{TimerSettings.TimerSettings, EjectSettings.EjectSettings}
use Rattle.machine_settings.specs.declared.settings.MultiballSettings.{MultiballSettings}
pub use Rattle.setting_values.specs.Values.{WrittenName, HandledEvent}
pub use Rattle.section_tables.specs.Rows.{Entry, PlayerEntry}

-- an entry of `switches`
pub record Switch : Type 0 where
  pub name : WrittenName
  pub contact : Contact
  pub debounce : Debounce
  pub tags : List WrittenName
  pub activation_events : List WrittenName
  pub deactivation_events : List WrittenName
  pub order : List ℕ

-- an entry of `event_player`
pub record EventPlayer : Type 0 where
  pub event : HandledEvent
  pub posts : List WrittenName

-- An entry of `coils`: the milliseconds and the power of a pulse of which nothing else is said, and the greatest ones;
-- whether the coil may be held, the power with which it is held if nothing else is said, and the greatest one. Powers
-- are in thousandths of full power.
pub record Coil : Type 0 where
  pub name : WrittenName
  pub pulse_ms : ℕ
  pub max_pulse_ms : ℕ
  pub pulse_power : ℕ
  pub max_pulse_power : ℕ
  pub may_hold : Bool
  pub hold_power : ℕ
  pub max_hold_power : ℕ

-- what a coil does when an event is handled, and what is said of its pulse and of the power with which it is held
pub record CoilItem : Type 0 where
  pub coil : WrittenName
  pub action : CoilAction
  pub pulse_ms : Option ℕ
  pub pulse_power : Option ℕ
  pub hold_power : Option ℕ

-- an entry of `coil_player`: what coils do, as it is written
pub record CoilPlayer : Type 0 where
  pub event : HandledEvent
  pub items : List CoilItem

-- what is done with a variable when an event is handled, and with which number
pub record VariableItem : Type 0 where
  pub variable : WrittenName
  pub action : VariableAction
  pub number : ℤ

-- an entry of `variable_player`: what is done with variables, as it is written
pub record VariablePlayer : Type 0 where
  pub event : HandledEvent
  pub items : List VariableItem

-- what `game` says: how many balls each player has, and how many players there may be
pub record GameSettings : Type 0 where
  pub balls_per_game : ℕ
  pub max_players : ℕ

-- an entry of `ball_devices`: its ball switches, the coil that ejects a ball, if there is one, where it ejects its
-- balls to, how it counts and ejects them, and its tags
pub record BallDeviceEntry : Type 0 where
  pub name : WrittenName
  pub switches : List WrittenName
  pub eject_coil : Option WrittenName
  pub target : WrittenName
  pub ejects : EjectSettings
  pub tags : List WrittenName
  pub order : List ℕ

-- an entry of `ball_saves`: its settings, and the events that enable and disable it
pub record BallSaveEntry : Type 0 where
  pub name : WrittenName
  pub settings : SaveSettings
  pub enable_events : List HandledEvent
  pub disable_events : List HandledEvent

-- an entry of `multiballs`: its settings, and the events that start it
pub record MultiballEntry : Type 0 where
  pub name : WrittenName
  pub settings : MultiballSettings
  pub start_events : List HandledEvent

-- what `mode` says of a mode: the events that start and stop it, its priority, whether it runs only in a game, whether
-- it stops with the ball, and whether it may hold the end of the ball
pub record ModeSettings : Type 0 where
  pub starts : List HandledEvent
  pub stops : List HandledEvent
  pub priority : ℕ
  pub game : Bool
  pub stops_with_ball : Bool
  pub holds_ball_end : Bool

-- the events that all logic blocks have: those that enable, disable, reset and restart the block, and those that are
-- posted in place of its own when it is hit and when it completes; none if its own are posted
pub record BlockEvents : Type 0 where
  pub enables : List HandledEvent
  pub disables : List HandledEvent
  pub resets : List HandledEvent
  pub restarts : List HandledEvent
  pub hit : List WrittenName
  pub complete : List WrittenName

-- an entry of `counters`: the events that it counts, and its settings
pub record CounterEntry : Type 0 where
  pub name : WrittenName
  pub counts : List HandledEvent
  pub settings : CounterSettings
  pub block : BlockEvents
  pub order : List ℕ

-- an entry of `accruals` or `sequences`: its steps, each with the events that do it
pub record StepBlock : Type 0 where
  pub name : WrittenName
  pub steps : List (List HandledEvent)
  pub settings : BlockSettings
  pub block : BlockEvents
  pub order : List ℕ

-- an event that controls a timer: what it does, and with which value
pub record ControlEvent : Type 0 where
  pub event : HandledEvent
  pub action : ControlAction
  pub value : ℤ

-- an entry of `timers`: its settings, and the events that control it
pub record TimerEntry : Type 0 where
  pub name : WrittenName
  pub settings : TimerSettings
  pub controls : List ControlEvent

-- an entry of `shots`: its switch, if it has one, the events that hit it, its profile, and the events that advance,
-- reset, enable and disable it
pub record Shot : Type 0 where
  pub name : WrittenName
  pub switch : Option WrittenName
  pub hits : List HandledEvent
  pub profile : WrittenName
  pub advances : List HandledEvent
  pub resets : List HandledEvent
  pub enables : List HandledEvent
  pub disables : List HandledEvent
  pub order : List ℕ

-- an entry of `shot_groups`: its shots, and the events that rotate their states, rotate them to the right and to the
-- left, and reset them
pub record ShotGroup : Type 0 where
  pub name : WrittenName
  pub shots : List WrittenName
  pub rotates : List HandledEvent
  pub rotates_right : List HandledEvent
  pub rotates_left : List HandledEvent
  pub resets : List HandledEvent

-- an entry of `shot_profiles`: its states, whether a hit advances a shot to the next one, and whether the first one
-- comes after the last
pub record ShotProfile : Type 0 where
  pub name : WrittenName
  pub states : List WrittenName
  pub advance_on_hit : Bool
  pub loops : Bool

-- what stands in a section, as written: entries by its table, those of a player, one entry, or a list of names
pub data Content : Type 0 where
  entries : List Entry → Content
  players : List PlayerEntry → Content
  entry : Entry → Content
  name_list : List WrittenName → Content

-- a section by its name
pub record SectionRows : Type 0 where
  pub name : List ℕ
  pub content : Content
