use Rattle.std.proofs.Common.{take}
use Rattle.plan_tables.specs.declared.devices.Telling.TheVariants.{Arrived}
use Rattle.cascade_rank.specs.Cost.{dearest_of, cost_of_told}
use Rattle.cascade_rank.proofs.costs.measure_arrival.Given as goal

-- the dearest of the devices so far
abbrev pub invariant-loop-row : goal.invariant-loop-row
invariant-loop-row g l = g.M.Measure.Measures l.fn.measure
    (dearest_of (cost_of_told l.plan (Arrived l.target)) (take l.row-index l.row-items)) l.measure l.dearest
