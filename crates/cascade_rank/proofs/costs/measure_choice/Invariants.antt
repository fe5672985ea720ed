use Rattle.std.proofs.Common.{take}
use Rattle.cascade_rank.specs.Cost.{cost_of_choice}
use Rattle.cascade_rank.proofs.costs.measure_choice.Given as goal

-- the posts so far
abbrev pub invariant-loop-which : goal.invariant-loop-which
invariant-loop-which g l = g.M.Measure.Measures l.fn.measure (cost_of_choice l.plan (take l.which-index l.choice))
    l.measure l.total
