use Rattle.std.proofs.Common.{take, map}
use Rattle.cascade_rank.specs.Cost.{dearest_of, cost_of_choice}
use Rattle.cascade_rank.proofs.costs.measure_choices.Given as goal

-- the dearest of the ways so far
abbrev pub invariant-loop-choice : goal.invariant-loop-choice
invariant-loop-choice g l = g.M.Measure.Measures l.fn.measure
    (dearest_of (cost_of_choice l.plan) (take l.choice-index (map (λ posts. posts.now) l.choice-items))) l.measure
    l.dearest
