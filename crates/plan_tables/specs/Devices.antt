-- The limits of a device's settings, and how many effect lists it has.
use Rattle.std.specs.Prelude.{◌≡◌, ℕ, suc, ◌+◌, ◌*◌, ◌≤◌, if◌then◌else◌, length}
use Rattle.machine_settings.specs.Limits.{IsCounterWithin, AreStepsWithin, IsTimerWithin, IsEjectWithin, IsSaveWithin}
use Rattle.machine_settings.specs.Limits.{IsMultiballWithin}
use Rattle.plan_tables.specs.declared.devices.{BallSettings.BallSettings, BankSettings.BankSettings, Settings.Settings}
use Rattle.plan_tables.specs.declared.devices.Settings.TheVariants.{Counter, Accrual, Sequence, Timer, Bank, Flipper}
use Rattle.plan_tables.specs.declared.devices.Settings.TheVariants.{Autofire, BallDevice, BallSave, Multiball}

-- at most 16 ball switches
pub record IsBallDeviceWithin (d : BallSettings) : Type 0 where
  pub switches : d.switches ≤ 16
  pub ejects : IsEjectWithin d.ejects

-- of a bank at most 16 shots and states, and a flag for each of 16 shots
abbrev pub IsWithinLimits : Settings → Type 0
IsWithinLimits (Counter c) = IsCounterWithin c
IsWithinLimits (Accrual a) = AreStepsWithin a
IsWithinLimits (Sequence q) = AreStepsWithin q
IsWithinLimits (Timer t) = IsTimerWithin t
IsWithinLimits (Bank b) = (b.shots ≤ 16) × (b.last_state ≤ 15) × (length b.enabled ≡ 16)
IsWithinLimits Flipper = Unit {0}
IsWithinLimits Autofire = Unit {0}
IsWithinLimits (BallDevice d) = IsBallDeviceWithin d
IsWithinLimits (BallSave b) = IsSaveWithin b
IsWithinLimits (Multiball m) = IsMultiballWithin m

-- how many states the profile of a bank has
abbrev pub state_count : BankSettings → ℕ
state_count b = suc b.last_state

-- one effect list for each shot in each state, and of a group two more for each state
abbrev pub bank_list_count : BankSettings → ℕ
bank_list_count b = state_count b * (b.shots + (if b.group then 2 else 0))

-- how many effect lists a row has: three of a block, five of a timer, those of a bank, two of a flipper, one of an
-- autofire coil, seven of a ball device, three of a ball save, and two of a multiball
abbrev pub list_count : Settings → ℕ
list_count (Counter c) = 3
list_count (Accrual a) = 3
list_count (Sequence q) = 3
list_count (Timer t) = 5
list_count (Bank b) = bank_list_count b
list_count Flipper = 2
list_count Autofire = 1
list_count (BallDevice d) = 7
list_count (BallSave b) = 3
list_count (Multiball m) = 2
