-- The limits of settings.
use Rattle.std.specs.Prelude.{◌≤◌, ℤ, pos, neg_ℤ, ◌≤ℤ◌, Option, IfSome}
use Rattle.machine_settings.specs.declared.settings.CounterSettings.{CounterSettings}
use Rattle.machine_settings.specs.declared.settings.{StepSettings.StepSettings, SaveSettings.SaveSettings}
use Rattle.machine_settings.specs.declared.settings.{TimerSettings.TimerSettings, EjectSettings.EjectSettings}
use Rattle.machine_settings.specs.declared.settings.MultiballSettings.{MultiballSettings}

-- a number of a setting
abbrev pub IsNumberWithin : ℤ → Type 0
IsNumberWithin n = (neg_ℤ (pos 1000000000) ≤ℤ n) × (n ≤ℤ pos 1000000000)

-- a value that is reached
abbrev pub IsEndWithin : Option ℤ → Type 0
IsEndWithin end = IfSome end IsNumberWithin

-- the end of a counter is one that a value can pass
abbrev pub IsCounterWithin : CounterSettings → Type 0
IsCounterWithin c = IsEndWithin c.complete

-- an accrual or a sequence has at most 16 steps
abbrev pub AreStepsWithin : StepSettings → Type 0
AreStepsWithin s = s.steps ≤ 16

-- at least a millisecond is between the ticks of a timer
abbrev pub IsTimerWithin : TimerSettings → Type 0
IsTimerWithin t = (1 ≤ t.interval) × IsEndWithin t.end

-- each delay of a ball device is of at least a millisecond
pub record IsEjectWithin (e : EjectSettings) : Type 0 where
  pub entrance : 1 ≤ e.entrance_delay
  pub exit : 1 ≤ e.exit_delay
  pub timeout : 1 ≤ e.timeout

-- a ball save saves 1 to 99 balls
abbrev pub IsSaveWithin : SaveSettings → Type 0
IsSaveWithin s = (1 ≤ s.balls) × (s.balls ≤ 99)

-- a multiball asks for 2 to 99
abbrev pub IsMultiballWithin : MultiballSettings → Type 0
IsMultiballWithin m = (2 ≤ m.balls) × (m.balls ≤ 99)
