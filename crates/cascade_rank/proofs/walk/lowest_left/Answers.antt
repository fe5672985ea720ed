use Rattle.std.proofs.{Common.{nat_lt, Bool, cond, length, get_or, ap, arith}, lemmas.Bool.{lt-ltb, le-ltb}}
use Rattle.cascade_rank.specs.{Cost.cost_of_post, Events.no_event, Order.left_of}
use Rattle.cascade_rank.proofs.Firsts.{lowest-each_more, lowest_all}
use Rattle.cascade_rank.proofs.walk.lowest_left.Goals as goal
use Rattle.cascade_rank.proofs.walk.lowest_left.Goals.{then-unmet_counts-event-gt0, else-unmet_counts-event-gt0}

pub loop-event-preserved : goal.loop-event-preserved
loop-event-preserved c =
    let unmet_counts = c.args.unmet_counts.now in
    let e = get_or c.args.posts.now c.loop-event.event-index no_event in
    let more = lowest-each_more (length unmet_counts) (λ d. nat_lt 0 (left_of unmet_counts d)) cost_of_post
    c.args.posts.now
    c.loop-event.event-index no_event c.loop-event-test.true in
    let most = lowest_all (length unmet_counts) (λ d. nat_lt 0 (left_of unmet_counts d)) c.args.posts.now
    c.requires.within
    c.loop-event.event-index in
    elim c.if-unmet_counts-event-gt0.branch [
      | then-unmet_counts-event-gt0 w ↦
          let passes = ap (λ (b : Bool). cond b e.0 (length unmet_counts))
          (lt-ltb 0 (left_of unmet_counts e) w.if-unmet_counts-event-gt0.true)
          in
          omega (arith, more, passes, w.lowest-is, w.min-lowest.ensures, c.loop-event.invariant)
      | else-unmet_counts-event-gt0 w ↦
          let fails = ap (λ (b : Bool). cond b e.0 (length unmet_counts))
          (le-ltb 0 (left_of unmet_counts e) w.if-unmet_counts-event-gt0.false)
          in
          omega (arith, more, fails, w.lowest-is, most, c.loop-event.invariant)
    ]
