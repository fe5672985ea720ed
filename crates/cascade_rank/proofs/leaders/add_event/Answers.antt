use Rattle.std.proofs.{Common.{rules, ◌<◌, length, get_or, refl, arith, take_all}, lemmas.List.Elements.All-get_or}
use Rattle.plan_tables.specs.Valid.{IsEventWithin}
use Rattle.cascade_rank.specs.{Cost.{Lines, cost_of_post}, Events.no_event}
use Rattle.cascade_rank.proofs.Leading.{adds-none, adds-more, adds-one}
use Rattle.cascade_rank.proofs.leaders.add_event.Goals as goal

pub loop-post-init : goal.loop-post-init
loop-post-init c = adds-none c.args.event (Lines 0) c.args.leaders.now (λ f. refl)

pub add-requires : goal.add-requires
add-requires c = search (rules, All-get_or)

pub loop-post-preserved : goal.loop-post-preserved
loop-post-preserved c =
    let posted = get_or c.args.posts.now c.loop-post.post-index no_event in
    let below = All-get_or (IsEventWithin (length c.args.leaders.now)) c.args.posts.now c.loop-post.post-index no_event
    c.loop-post-test.true c.requires in
    let inside : posted.0 < length c.loop-post.leaders = omega (arith, below, c.loop-post.invariant.count) in
    rw c.in_ok-add.ensures
    (adds-more c.args.event cost_of_post c.args.posts.now c.loop-post.post-index no_event c.args.leaders.now
    c.loop-post.leaders _ c.loop-post-test.true c.loop-post.invariant
    (adds-one c.args.event posted c.loop-post.leaders inside))

pub returns : goal.returns
returns c = search (rules, take_all)
