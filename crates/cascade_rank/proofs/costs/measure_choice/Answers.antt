use Rattle.std.proofs.Common.{rules, subst, take_all}
use Rattle.plan_tables.specs.{PlanView.game_event, declared.entries.{EventId.EventId, GameEvent.TheVariants.SwStart}}
use Rattle.cascade_rank.{specs.Cost.cost_of_post, proofs.Alike.each_more}
use Rattle.cascade_rank.proofs.costs.measure_choice.Goals as goal

pub loop-which-preserved : goal.loop-which-preserved
loop-which-preserved g c =
    let one = subst (λ (e : EventId). g.M.Measure.Measures c.loop-which.measure (cost_of_post e) c.weight-post.new.self
    c.weight-post.result) c.game_event.ensures.event c.weight-post.ensures in
    g.met.M.Measure.alike _ _ _ _ _ (each_more (λ which. cost_of_post (game_event c.args.plan.now which))
    c.args.choice.now c.loop-which.which-index SwStart c.loop-which-test.true)
    (c.both-total.ensures _ _ _ _ c.loop-which.invariant one)

pub returns : goal.returns
returns g c = search (rules, take_all)
