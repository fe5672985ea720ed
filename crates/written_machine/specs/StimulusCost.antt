-- What a stimulus costs, and what the waiting events weigh.
use Rattle.std.specs.Prelude.{ℕ, ◌+◌, Option, Some, None, List, [], ◌∷◌}
use Rattle.plan_tables.specs.{PlanView.PlanView, declared.entries.EventId.EventId}
use Rattle.device_objects.specs.declared.device.Call.TheVariants as calls
use Rattle.switch_core.specs.{declared.change.Change.Change, Switches.{accept, report_change, reported_by_change}}
use Rattle.cascade_rank.specs.Cost.{Cost, Lines, cost_of_acceptance, cost_of_call}
use Rattle.event_queue.specs.declared.queue.Posted.{Posted}
use Rattle.written_machine.specs.{Machine.Machine, Run.{Source, switch, device, Stimulus, SwitchChange, Alarm, Wait}}

-- what the acceptance of a switch costs, if there is one
abbrev pub cost_if_accepted : PlanView → Option Change → Cost
cost_if_accepted plan None = Lines 0
cost_if_accepted plan (Some a) = cost_of_acceptance plan a.switch a.active

-- what an alarm costs: that of a switch its acceptance, that of a device its dearest answer
abbrev pub cost_of_alarm : PlanView → Machine → Source → Cost
cost_of_alarm plan s (switch n) = cost_of_acceptance plan n (report_change (accept n s.switches) n).active
cost_of_alarm plan s (device r) = cost_of_call plan r calls.Fire

-- What a stimulus costs: a change costs the acceptance of the switch if it is accepted at once, else nothing.
-- A wait costs nothing.
abbrev pub cost_of_stimulus : PlanView → Machine → Stimulus → Cost
cost_of_stimulus plan s (SwitchChange at n level) = cost_if_accepted plan (reported_by_change n level at s.switches)
cost_of_stimulus plan s (Alarm at source) = cost_of_alarm plan s source
cost_of_stimulus plan s (Wait at) = Lines 0

-- the weights of the events that wait
abbrev pub weigh : (EventId → ℕ) → List Posted → ℕ
weigh w [] = 0
weigh w (p ∷ ps) = w p.event + weigh w ps
