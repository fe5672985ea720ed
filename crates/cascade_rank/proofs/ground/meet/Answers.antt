use Rattle.std.proofs.Common.{◌-◌, ◌∙◌, List, get_or, slice_index, refl, sym, subst, arith, length-set, take_all}
use Rattle.std.proofs.Common.{get_or-set_same}
use Rattle.plan_tables.specs.declared.entries.EventId.{EventId}
use Rattle.cascade_rank.specs.{Events.no_event, Order.IsMeeting}
use Rattle.cascade_rank.proofs.Ordering.{meets_inside, meets_some, meets_keeps, meets_lists}
use Rattle.cascade_rank.proofs.ground.meet.Goals as goal
use Rattle.cascade_rank.proofs.ground.meet.Goals.{then-unmet_counts-place-eq0+in_ok-push, else-unmet_counts-place-eq0}

pub bounds-unmet_counts-place : goal.bounds-unmet_counts-place
bounds-unmet_counts-place c =
    let (plan, taken, start) = c.requires in
    meets_inside plan taken c.args.leaders.now c.loop-event.unmet_counts c.loop-event.order.items
    c.loop-event.event-index
    (get_or c.args.leaders.now c.loop-event.event-index no_event) c.loop-event-test.true refl
    (c.loop-event.invariant plan taken start)

pub overflow_sub-unmet_counts : goal.overflow_sub-unmet_counts
overflow_sub-unmet_counts c =
    let (plan, taken, start) = c.requires in
    meets_some plan taken c.args.leaders.now c.loop-event.unmet_counts c.loop-event.order.items c.loop-event.event-index
    (get_or c.args.leaders.now c.loop-event.event-index no_event) c.loop-event-test.true refl
    (c.loop-event.invariant plan taken start)

pub bounds-unmet_counts-place-in-loop-event : goal.bounds-unmet_counts-place-in-loop-event
bounds-unmet_counts-place-in-loop-event c =
    let (plan, taken, start) = c.requires in
    meets_inside plan taken c.args.leaders.now c.loop-event.unmet_counts c.loop-event.order.items
    c.loop-event.event-index
    (get_or c.args.leaders.now c.loop-event.event-index no_event) c.loop-event-test.true refl
    (c.loop-event.invariant plan taken start)

pub bounds-unmet_counts-place-in-loop-event-2 : goal.bounds-unmet_counts-place-in-loop-event-2
bounds-unmet_counts-place-in-loop-event-2 c =
    let (plan, taken, start) = c.requires in
    let place = (get_or c.args.leaders.now c.loop-event.event-index no_event).0 in
    let inside = meets_inside plan taken c.args.leaders.now c.loop-event.unmet_counts c.loop-event.order.items
    c.loop-event.event-index (get_or c.args.leaders.now c.loop-event.event-index no_event) c.loop-event-test.true
    refl (c.loop-event.invariant plan taken start) in
    omega (arith, inside, length-set c.loop-event.unmet_counts place (slice_index c.loop-event.unmet_counts place - 1))

pub loop-event-preserved : goal.loop-event-preserved
loop-event-preserved c = λ plan taken start.
    let event = get_or c.args.leaders.now c.loop-event.event-index no_event in
    let here = c.loop-event.invariant plan taken start in
    let inside = meets_inside plan taken c.args.leaders.now c.loop-event.unmet_counts c.loop-event.order.items
    c.loop-event.event-index event c.loop-event-test.true refl here in
    let less = get_or-set_same c.loop-event.unmet_counts event.0 (slice_index c.loop-event.unmet_counts event.0 - 1) 0
    inside in
    elim c.if-unmet_counts-place-eq0.branch [
      | then-unmet_counts-place-eq0+in_ok-push w ↦
          rw (w.order-is, w.in_ok-push.ensures.items)
          (meets_lists plan taken c.args.leaders.now c.loop-event.unmet_counts c.loop-event.order.items
          c.loop-event.event-index
          event c.loop-event-test.true refl here (sym less ∙ w.if-unmet_counts-place-eq0.true))
      | else-unmet_counts-place-eq0 w ↦
          rw w.order-is
          (meets_keeps plan taken c.args.leaders.now c.loop-event.unmet_counts c.loop-event.order.items
          c.loop-event.event-index
          event c.loop-event-test.true refl here (λ none. w.if-unmet_counts-place-eq0.false (less ∙ none)))
    ]

pub returns : goal.returns
returns c = λ plan taken start.
    subst (λ (done : List EventId). IsMeeting plan taken c.args.leaders.now done c.loop-event.unmet_counts
    c.loop-event.order.items) (take_all c.loop-event.event-index c.args.leaders.now c.loop-event-test.false)
    (c.loop-event.invariant plan taken start)
