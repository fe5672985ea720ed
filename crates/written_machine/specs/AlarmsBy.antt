-- The alarms that come by a moment, one after another, each with its event steps in plan order.
use Rattle.std.specs.Prelude.{ℕ, zero, suc, nat_le, if◌then◌else◌, Option, Some, None, List, [], ◌∷◌}
use Rattle.std.specs.Option.{option_map_or}
use Rattle.plan_tables.specs.PlanView.{PlanView}
use Rattle.written_machine.specs.{Machine.Machine, NextAlarm.next_alarm}
use Rattle.written_machine.specs.{PlanOrder.settle_all, Run.{Source, Stimulus, Alarm}}

-- the next alarm, if it is due by the moment
abbrev pub due_by : ℕ → Option (ℕ × Source) → Option (ℕ × Source)
due_by until None = None
due_by until (Some a) = if nat_le a.0 until then Some a else None

-- The alarms that come by the moment, no more than so many.
abbrev pub alarms_by : PlanView → ℕ → ℕ → ℕ → Machine → List Stimulus
alarms_by plan bound until zero s = []
alarms_by plan bound until (suc k) s =
    option_map_or (λ a. let alarm = Alarm a.0 a.1
    in alarm ∷ alarms_by plan bound until k (settle_all plan bound alarm s)) (due_by until (next_alarm s)) []

-- the state after these stimuli
abbrev pub state_after : PlanView → ℕ → List Stimulus → Machine → Machine
state_after plan bound [] s = s
state_after plan bound (stimulus ∷ more) s = state_after plan bound more (settle_all plan bound stimulus s)
