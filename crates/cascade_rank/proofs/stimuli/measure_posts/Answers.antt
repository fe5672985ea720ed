use Rattle.std.proofs.Common.{rules, take_all}
use Rattle.cascade_rank.{specs.Cost.cost_of_post, proofs.Alike.each_more}
use Rattle.cascade_rank.proofs.stimuli.measure_posts.Goals as goal

pub loop-event-preserved : goal.loop-event-preserved
loop-event-preserved g c =
    g.met.M.Measure.alike _ _ _ _ _ (each_more cost_of_post c.args.posts.now c.loop-event.event-index (record { 0 = 0 })
    c.loop-event-test.true)
    (c.both-total.ensures _ _ _ _ c.loop-event.invariant c.weight-post.ensures)

pub returns : goal.returns
returns g c = search (rules, take_all)
