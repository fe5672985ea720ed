-- What it means that no list in a section has more than 1,024 items, and that settings are in their ranges.
use Rattle.std.specs.{Prelude.{ℕ, ◌≤◌, IfSome, length}, List.All}
pub use Rattle.section_tables.specs.Named.{IsShortEntry, IsShortPlayer}
use Rattle.machine_settings.specs.Limits.{IsNumberWithin, IsCounterWithin, IsTimerWithin, IsEjectWithin, IsSaveWithin}
use Rattle.machine_settings.specs.Limits.{IsMultiballWithin}
use Rattle.mpf_sections.specs.Rows.{Switch, EventPlayer, Coil, CoilItem, CoilPlayer, VariableItem, VariablePlayer}
use Rattle.mpf_sections.specs.Rows.{GameSettings, Shot, ShotGroup, ShotProfile, BallDeviceEntry, BallSaveEntry}
use Rattle.mpf_sections.specs.Rows.{MultiballEntry, BlockEvents, CounterEntry, StepBlock, TimerEntry, Content}
use Rattle.mpf_sections.specs.{Rows.SectionRows, Typed.{entries_in, players_in, entry_in, names_in}}

-- No list in a section is longer, whatever its settings are; the coils of an entry of `coil_player` are such a list,
-- and so are the variables of one of `variable_player`.
abbrev pub IsShortContent : Content → Type 0
IsShortContent content =
    All (IsShortEntry 1024) (entries_in content) × All (IsShortPlayer 1024) (players_in content)
    × All (IsShortEntry 1024) (entry_in content) × (length (names_in content) ≤ 1024)

abbrev pub IsShortSection : SectionRows → Type 0
IsShortSection s = IsShortContent s.content

-- ---- by the names of settings

pub record IsShortSwitch (s : Switch) : Type 0 where
  pub tags : length s.tags ≤ 1024
  pub activation_events : length s.activation_events ≤ 1024
  pub deactivation_events : length s.deactivation_events ≤ 1024

abbrev pub IsShortEventPlayer : EventPlayer → Type 0
IsShortEventPlayer p = length p.posts ≤ 1024

abbrev pub IsShortCoilPlayer : CoilPlayer → Type 0
IsShortCoilPlayer p = length p.items ≤ 1024

abbrev pub IsShortVariablePlayer : VariablePlayer → Type 0
IsShortVariablePlayer p = length p.items ≤ 1024

-- the number of a variable
abbrev pub IsChangeInRange : VariableItem → Type 0
IsChangeInRange i = IsNumberWithin i.number

abbrev pub IsVariablePlayerInRange : VariablePlayer → Type 0
IsVariablePlayerInRange p = All IsChangeInRange p.items

-- what is said of the game
pub record IsGameInRange (g : GameSettings) : Type 0 where
  pub some_balls : 1 ≤ g.balls_per_game
  pub few_balls : g.balls_per_game ≤ 99
  pub some_players : 1 ≤ g.max_players
  pub few_players : g.max_players ≤ 4

-- the milliseconds of a pulse
abbrev pub IsPulseInRange : ℕ → Type 0
IsPulseInRange ms = (1 ≤ ms) × (ms ≤ 5000)

-- a power, in thousandths of full power
abbrev pub IsPowerInRange : ℕ → Type 0
IsPowerInRange power = power ≤ 1000

pub record IsCoilInRange (c : Coil) : Type 0 where
  pub pulse_ms : IsPulseInRange c.pulse_ms
  pub max_pulse_ms : IsPulseInRange c.max_pulse_ms
  pub pulse_power : IsPowerInRange c.pulse_power
  pub max_pulse_power : IsPowerInRange c.max_pulse_power
  pub hold_power : IsPowerInRange c.hold_power
  pub max_hold_power : IsPowerInRange c.max_hold_power

-- what is said of a coil when an event is handled
pub record IsItemInRange (i : CoilItem) : Type 0 where
  pub pulse_ms : IfSome i.pulse_ms IsPulseInRange
  pub pulse_power : IfSome i.pulse_power IsPowerInRange
  pub hold_power : IfSome i.hold_power IsPowerInRange

abbrev pub IsCoilPlayerInRange : CoilPlayer → Type 0
IsCoilPlayerInRange p = All IsItemInRange p.items

pub record IsShortShot (s : Shot) : Type 0 where
  pub hits : length s.hits ≤ 1024
  pub advances : length s.advances ≤ 1024
  pub resets : length s.resets ≤ 1024
  pub enables : length s.enables ≤ 1024
  pub disables : length s.disables ≤ 1024

pub record IsShortShotGroup (g : ShotGroup) : Type 0 where
  pub shots : length g.shots ≤ 16
  pub rotates : length g.rotates ≤ 1024
  pub rotates_right : length g.rotates_right ≤ 1024
  pub rotates_left : length g.rotates_left ≤ 1024
  pub resets : length g.resets ≤ 1024

abbrev pub IsShortShotProfile : ShotProfile → Type 0
IsShortShotProfile p = length p.states ≤ 16

-- a ball device has at most 16 ball switches
pub record IsShortBallDevice (d : BallDeviceEntry) : Type 0 where
  pub switches : length d.switches ≤ 16
  pub ejects : IsEjectWithin d.ejects
  pub tags : length d.tags ≤ 1024

abbrev pub IsShortBallSave : BallSaveEntry → Type 0
IsShortBallSave b = IsSaveWithin b.settings

abbrev pub IsShortMultiball : MultiballEntry → Type 0
IsShortMultiball m = IsMultiballWithin m.settings

-- the events that a logic block posts
pub record IsShortBlock (b : BlockEvents) : Type 0 where
  pub hit : length b.hit ≤ 1024
  pub complete : length b.complete ≤ 1024

pub record IsShortCounter (c : CounterEntry) : Type 0 where
  pub settings : IsCounterWithin c.settings
  pub block : IsShortBlock c.block

pub record IsShortStepBlock (b : StepBlock) : Type 0 where
  pub steps : length b.steps ≤ 16
  pub block : IsShortBlock b.block

abbrev pub IsShortTimer : TimerEntry → Type 0
IsShortTimer t = IsTimerWithin t.settings
