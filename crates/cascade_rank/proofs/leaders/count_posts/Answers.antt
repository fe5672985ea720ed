use Rattle.std.proofs.Common.{rules, length}
use Rattle.cascade_rank.proofs.{Events.event, Leading.leaders_more, Within.posts_of_event-within}
use Rattle.cascade_rank.proofs.leaders.count_posts.Goals as goal

pub add_event-requires : goal.add_event-requires
add_event-requires c =
    posts_of_event-within c.args.plan.now c.in_ok-followers.ensures.valid.entries (event c.loop-number.number)
    (length c.loop-number.leaders) c.in_ok-followers.followers.now c.loop-number.invariant.count
    c.in_ok-followers.ensures.posts

pub loop-number-preserved : goal.loop-number-preserved
loop-number-preserved c = search (rules, leaders_more)
