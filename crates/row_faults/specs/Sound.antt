-- What holds of rows without faults: nothing that they say of a coil goes past its limits; the coils, switches, shots,
-- profiles and ball devices of which they speak are defined; the balls of each ball device come to the playfield; and
-- each ball switch is of one ball device, once. Here `machine` is the sections of the machine text.
use Rattle.std.specs.Prelude.{◌≡◌, ◌≢◌, ℕ, ◌≤◌, true, false, ◌||◌, Some, IfSome, IsSome, is_some, List, unwrap_or}
use Rattle.std.specs.List.{All, AllPairs, flat_map}
use Rattle.mpf_sections.specs.declared.words.CoilAction.{CoilAction, TheVariants.{Pulse, Enable, Disable}}
use Rattle.mpf_sections.specs.Rows.{Coil, CoilItem, CoilPlayer, VariableItem, Shot, ShotGroup, BallDeviceEntry}
use Rattle.mpf_sections.specs.{Rows.SectionRows, Typed.entries_in, TypedShots.{shots_in, shot_groups_in}}
use Rattle.mpf_sections.specs.{TypedBalls.{is_trough, ball_devices_in}, TypedCoils.{coils_in, coil_players_in}}
use Rattle.mpf_sections.specs.{TypedGame.variable_players_in, CoilRules.{CoilRule, coil_rule_of}}
use Rattle.mpf_config.specs.Rows.{Rows}
use Rattle.machine_definitions.specs.Definitions.{coil_called, has_switch, ball_devices_of}
use Rattle.machine_definitions.specs.Shots.{shot_called, has_profile}
use Rattle.row_faults.specs.Reserved.{events_of_modes, is_reserved, mode_names, posts_of}
use Rattle.row_faults.specs.{VariableFaults.is_barred, Routes.{leads_to_playfield, switch_names}, BallFaults.is_place}

-- ---- what a coil is sent

-- a pulse of so many milliseconds with this power is within the limits of the coil
pub record IsPulseWithin (c : Coil) (ms power : ℕ) : Type 0 where
  pub shortest : 1 ≤ ms
  pub longest : ms ≤ c.max_pulse_ms
  pub greatest : power ≤ c.max_pulse_power

-- the coil may be held with this power
pub record IsHoldWithin (c : Coil) (power : ℕ) : Type 0 where
  pub may_hold : c.may_hold ≡ true
  pub greatest : power ≤ c.max_hold_power

-- what the coil's own entry says if nothing else is said
pub record IsCoilSound (c : Coil) : Type 0 where
  pub pulse : IsPulseWithin c c.pulse_ms c.pulse_power
  pub hold : c.hold_power ≤ c.max_hold_power

-- a coil of this name is defined, and this holds of it
pub record IsCoilSuch (machine : List SectionRows) (name : List ℕ) (P : Coil → Type 0) : Type 0 where
  pub coil : Coil
  pub by_name : coil_called machine name ≡ Some coil
  pub such : P coil

-- ---- rows

-- what is not written is by the coil's own entry
abbrev pub IsActionWithin : Coil → CoilItem → CoilAction → Type 0
IsActionWithin c i Pulse = IsPulseWithin c (unwrap_or i.pulse_ms c.pulse_ms) (unwrap_or i.pulse_power c.pulse_power)
IsActionWithin c i Enable = IsHoldWithin c (unwrap_or i.hold_power c.hold_power)
IsActionWithin c i Disable = Unit {0}

abbrev pub IsItemSound : List SectionRows → CoilItem → Type 0
IsItemSound machine i = IsCoilSuch machine i.coil.text (λ c. IsActionWithin c i i.action)

abbrev pub IsCoilPlayerSound : List SectionRows → CoilPlayer → Type 0
IsCoilPlayerSound machine p = All (IsItemSound machine) p.items

-- The coil of a coil rule is defined, and so is its switch, if it has one. Its hold coil, if it has one, may be held.
pub record IsCoilRuleSound (machine : List SectionRows) (r : CoilRule) : Type 0 where
  pub coil : IsCoilSuch machine r.coil.text IsCoilSound
  pub hold_coil : IfSome r.hold_coil (λ w. IsCoilSuch machine w.text (λ c. IsHoldWithin c c.hold_power))
  pub switch : IfSome r.switch (λ w. has_switch machine w.text ≡ true)

-- the switch of a shot is defined, if it has one, and so is its profile
pub record IsShotSound (rows : Rows) (s : Shot) : Type 0 where
  pub switch : IfSome s.switch (λ w. has_switch rows.machine w.text ≡ true)
  pub profile : has_profile rows s.profile.text ≡ true

-- each shot that a group lists is defined
abbrev pub IsShotGroupSound : Rows → ShotGroup → Type 0
IsShotGroupSound rows g = All (λ w. IsSome (shot_called rows w.text)) g.shots

-- the ball switches of a ball device are defined, and so is its eject coil, if it has one; its target is the playfield,
-- or a ball device that is defined
pub record IsBallDeviceSound (machine : List SectionRows) (d : BallDeviceEntry) : Type 0 where
  pub switches : All (λ w. has_switch machine w.text ≡ true) d.switches
  pub eject_coil : IfSome d.eject_coil (λ w. IsCoilSuch machine w.text IsCoilSound)
  pub target : is_place machine d.target.text ≡ true

pub record IsSectionSound (rows : Rows) (s : SectionRows) : Type 0 where
  pub coils : All IsCoilSound (coils_in s)
  pub coil_players : All (IsCoilPlayerSound rows.machine) (coil_players_in s)
  pub rules : All (λ e. IfSome (coil_rule_of s.name e) (IsCoilRuleSound rows.machine)) (entries_in s.content)
  pub shots : All (IsShotSound rows) (shots_in s)
  pub groups : All (IsShotGroupSound rows) (shot_groups_in s)
  pub ball_devices : All (IsBallDeviceSound rows.machine) (ball_devices_in s)

-- ---- the ways of balls

-- The balls that a ball device ejects come to the playfield. It has a coil that ejects them, or they leave by
-- themselves; a trough has a coil.
pub record IsRouted (devices : List BallDeviceEntry) (d : BallDeviceEntry) : Type 0 where
  pub leads : leads_to_playfield devices d ≡ true
  pub ejects : (is_some d.eject_coil || d.ejects.mechanical) ≡ true
  pub trough : is_trough d ≡ true → IsSome d.eject_coil

-- This holds of each ball device, and each ball switch is of one ball device, once.
pub record AreRouted (devices : List BallDeviceEntry) : Type 0 where
  pub each : All (IsRouted devices) devices
  pub switches : AllPairs (λ v w. v ≢ w) (flat_map switch_names devices)

-- ---- all texts

-- what rows post as written, in the machine text and in the texts of modes, is not reserved
pub record PostNothingReserved (rows : Rows) : Type 0 where
  pub machine : All (λ w. is_reserved rows w.text ≡ false) (posts_of rows.machine)
  pub modes : All (λ m. All (λ w. is_reserved rows w.text ≡ false) (posts_of m.sections)) rows.modes

-- rows change no variable that no row may change
abbrev pub IsChangeFree : Rows → VariableItem → Type 0
IsChangeFree rows item = is_barred (events_of_modes (mode_names rows)) item.variable.text ≡ false

abbrev pub ChangesNothingBarred : Rows → SectionRows → Type 0
ChangesNothingBarred rows s = All (λ p. All (IsChangeFree rows) p.items) (variable_players_in s)

pub record IsSound (rows : Rows) : Type 0 where
  pub posts : PostNothingReserved rows
  pub changes : All (ChangesNothingBarred rows) rows.machine
  pub mode_changes : All (λ m. All (ChangesNothingBarred rows) m.sections) rows.modes
  pub machine : All (IsSectionSound rows) rows.machine
  pub modes : All (λ m. All (IsSectionSound rows) m.sections) rows.modes
  pub balls : AreRouted (ball_devices_of rows.machine)
