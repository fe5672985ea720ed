use Rattle.std.proofs.Common.{rules, subst, take_all}
use Rattle.plan_tables.specs.{PlanView.list_of_row, declared.entries.ListId.ListId}
use Rattle.cascade_rank.{specs.Cost.cost_of_list_by, proofs.Alike.each_more}
use Rattle.cascade_rank.proofs.costs.measure_answer.Goals as goal

pub loop-list-preserved : goal.loop-list-preserved
loop-list-preserved g c =
    let cost = cost_of_list_by c.args.plan.now (g.T.TellCost.cost c.args.plan.now) in
    let one = subst (λ (l : ListId). g.M.Measure.Measures c.loop-list.measure (cost l) c.measure_list-cost.new.measure
    c.measure_list-cost.result) c.list_of_row.ensures.list c.measure_list-cost.ensures in
    g.met.M.Measure.alike _ _ _ _ _ (each_more (λ k. cost (list_of_row c.args.plan.now c.args.row k)) c.args.lists.now
    c.loop-list.list-index 0 c.loop-list-test.true)
    (c.both-total.ensures _ _ _ _ c.loop-list.invariant one)

pub returns : goal.returns
returns g c = search (rules, take_all)
