use Rattle.std.proofs.Common.{ℕ, take}
use Rattle.arrayvec.specs.ArrayVec.{ArrayVec}
use Rattle.cascade_rank.specs.Cost.{dearest_of, cost_of_answer_by}
use Rattle.cascade_rank.proofs.costs.measure_answers.Given as goal

-- the dearest of the answers so far
abbrev pub invariant-loop-answer : goal.invariant-loop-answer
invariant-loop-answer g l = g.M.Measure.Measures l.fn.measure
    (dearest_of (λ (a : ArrayVec ℕ). cost_of_answer_by l.plan (g.T.TellCost.cost l.plan) l.row a.items)
    (take l.answer-index l.answer-items)) l.measure l.dearest
