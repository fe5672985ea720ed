use Rattle.plan_tables.specs.{PlanView.{is_save, row_at}, declared.devices.Act.TheVariants.Save}
use Rattle.device_objects.specs.declared.device.Call.TheVariants as calls
use Rattle.cascade_rank.{specs.Cost.{dearest_of, cost_of_call}, proofs.Passing.passed}
use Rattle.cascade_rank.proofs.costs.measure_saves.Given as goal

-- the dearest of the ball saves so far
abbrev pub invariant-loop-number : goal.invariant-loop-number
invariant-loop-number g l = g.M.Measure.Measures l.fn.measure
    (dearest_of (λ r. cost_of_call l.plan r (calls.Act Save))
    (passed l.plan (λ r. is_save (row_at l.plan r).settings) l.number)) l.measure l.dearest
