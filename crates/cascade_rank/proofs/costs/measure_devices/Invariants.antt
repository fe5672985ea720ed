use Rattle.std.proofs.Common.{take}
use Rattle.cascade_rank.specs.Cost.{each_of, cost_of_call}
use Rattle.cascade_rank.proofs.costs.measure_devices.Given as goal

-- the calls so far
abbrev pub invariant-loop-row : goal.invariant-loop-row
invariant-loop-row g l = g.M.Measure.Measures l.fn.measure
    (each_of (λ r. cost_of_call l.plan r l.call) (take l.row-index l.row-items)) l.measure l.total
