use Rattle.std.proofs.Common.{take}
use Rattle.plan_tables.specs.PlanView.{row_numbers}
use Rattle.device_objects.specs.declared.device.Call.TheVariants as calls
use Rattle.cascade_rank.specs.Cost.{dearest_of, cost_of_call}
use Rattle.cascade_rank.proofs.stimuli.measure_alarms.Given as goal

-- the dearest of the alarms so far
abbrev pub invariant-loop-number : goal.invariant-loop-number
invariant-loop-number g l = g.M.Measure.Measures l.fn.measure
    (dearest_of (λ r. cost_of_call l.plan r calls.Fire) (take l.number (row_numbers l.plan))) l.measure l.dearest
