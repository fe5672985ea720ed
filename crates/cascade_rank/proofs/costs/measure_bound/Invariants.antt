use Rattle.std.proofs.Common.{take}
use Rattle.cascade_rank.{specs.Cost.each_of, proofs.Places.cost_at_place}
use Rattle.cascade_rank.proofs.costs.measure_bound.Given as goal

-- what is at the places so far
abbrev pub invariant-loop-place : goal.invariant-loop-place
invariant-loop-place g l = g.M.Measure.Measures l.fn.measure
    (each_of (cost_at_place l.plan) (take l.place-index l.place-items)) l.measure l.total
