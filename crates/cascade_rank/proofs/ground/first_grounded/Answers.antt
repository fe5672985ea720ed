use Rattle.std.proofs.Common.{◌<◌, length, arith}
use Rattle.cascade_rank.proofs.Ordering.{start_push, start_skip}
use Rattle.cascade_rank.proofs.ground.first_grounded.Goals as goal
use Rattle.cascade_rank.proofs.ground.first_grounded.Goals.{then-unmet_counts-number-eq0+in_ok-push}
use Rattle.cascade_rank.proofs.ground.first_grounded.Goals.{else-unmet_counts-number-eq0}

pub loop-number-preserved : goal.loop-number-preserved
loop-number-preserved c =
    let here : c.loop-number.number < length c.args.plan.now.events =
    omega (arith, c.loop-number-test.true, c.event_count-number-end.ensures.count) in
    elim c.if-unmet_counts-number-eq0.branch [
      | then-unmet_counts-number-eq0+in_ok-push w ↦
          rw (w.order-is, w.in_ok-push.ensures.items)
          (start_push c.args.plan.now c.args.unmet_counts.now c.requires.count c.requires.unmet_counts
          c.loop-number.order.items
          (record { 0 = c.loop-number.number }) c.loop-number.invariant here w.if-unmet_counts-number-eq0.true)
      | else-unmet_counts-number-eq0 w ↦
          rw w.order-is
          (start_skip c.args.plan.now c.args.unmet_counts.now c.requires.count c.requires.unmet_counts
          c.loop-number.order.items
          (record { 0 = c.loop-number.number }) c.loop-number.invariant here
          (omega (arith, w.if-unmet_counts-number-eq0.false)))
    ]
