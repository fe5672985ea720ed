use Rattle.std.proofs.Common.{rules, take_all}
use Rattle.plan_tables.specs.declared.entries.Action.TheVariants.{Post}
use Rattle.cascade_rank.{specs.Cost.cost_of_action_by, proofs.Alike.each_more}
use Rattle.cascade_rank.proofs.costs.measure_actions.Goals as goal

pub loop-action-preserved : goal.loop-action-preserved
loop-action-preserved g c =
    g.met.M.Measure.alike _ _ _ _ _ (each_more (cost_of_action_by c.args.plan.now (g.T.TellCost.cost c.args.plan.now))
    c.args.actions.now c.loop-action.action-index (Post (record { 0 = 0 })) c.loop-action-test.true)
    (c.both-total.ensures _ _ _ _ c.loop-action.invariant c.measure_action-cost.ensures)

pub returns : goal.returns
returns g c = search (rules, take_all)
