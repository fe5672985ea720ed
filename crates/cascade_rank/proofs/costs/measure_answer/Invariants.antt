use Rattle.std.proofs.Common.{take}
use Rattle.plan_tables.specs.PlanView.{list_of_row}
use Rattle.cascade_rank.specs.Cost.{each_of, cost_of_list_by}
use Rattle.cascade_rank.proofs.costs.measure_answer.Given as goal

-- the lists so far
abbrev pub invariant-loop-list : goal.invariant-loop-list
invariant-loop-list g l = g.M.Measure.Measures l.fn.measure
    (each_of (λ k. cost_of_list_by l.plan (g.T.TellCost.cost l.plan) (list_of_row l.plan l.row k))
    (take l.list-index l.lists)) l.measure l.total
