use Rattle.std.proofs.Common.{take}
use Rattle.cascade_rank.specs.Cost.{each_of, cost_of_action_by}
use Rattle.cascade_rank.proofs.costs.measure_actions.Given as goal

-- the actions so far
abbrev pub invariant-loop-action : goal.invariant-loop-action
invariant-loop-action g l = g.M.Measure.Measures l.fn.measure
    (each_of (cost_of_action_by l.plan (g.T.TellCost.cost l.plan)) (take l.action-index l.actions)) l.measure l.total
