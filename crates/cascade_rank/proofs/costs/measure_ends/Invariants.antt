use Rattle.plan_tables.specs.{PlanView.{is_multiball, row_at}, declared.devices.Act.TheVariants.End}
use Rattle.device_objects.specs.declared.device.Call.TheVariants as calls
use Rattle.cascade_rank.{specs.Cost.{each_of, cost_of_call}, proofs.Passing.passed}
use Rattle.cascade_rank.proofs.costs.measure_ends.Given as goal

-- the multiballs so far
abbrev pub invariant-loop-number : goal.invariant-loop-number
invariant-loop-number g l = g.M.Measure.Measures l.fn.measure
    (each_of (λ r. cost_of_call l.plan r (calls.Act End))
    (passed l.plan (λ r. is_multiball (row_at l.plan r).settings) l.number)) l.measure l.total
