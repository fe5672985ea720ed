use Rattle.std.proofs.Common.{◌+◌, ◌<◌, [], List, ℕ, length, ap, ◌∙◌, sym, subst, arith}
use Rattle.cascade_rank.{specs.Order.IsOrdering, proofs.{Ordering.meets_all, Leading.{meeting_starts, written_back}}}
use Rattle.cascade_rank.proofs.ground.ground.Goals as goal

pub meet-requires : goal.meet-requires
meet-requires c =
    let plan = c.args.plan.now in
    let turn : c.loop-next.next < length c.loop-next.order.items = omega (arith, c.loop-next-test.true, c.len.ensures)
    in
    let same = c.deref_mut.ensures.value in
    let way = subst (λ (unmet_counts : List ℕ). IsOrdering c.args.plan.now c.loop-next.next [] unmet_counts
    c.loop-next.order.items)
    (sym same) c.loop-next.invariant in (
      plan,
      c.loop-next.next,
      meeting_starts plan c.loop-next.next c.of.result.now c.deref_mut.result.now
          c.in_ok-leaders.unmet_counts.items c.loop-next.order.items c.in_ok-leaders.leaders c.index-event.result.now
          c.in_ok-leaders.ensures way turn c.index-event.ensures c.of.ensures,
    )

pub loop-next-preserved : goal.loop-next-preserved
loop-next-preserved c =
    let plan = c.args.plan.now in
    let turn : c.loop-next.next < length c.loop-next.order.items = omega (arith, c.loop-next-test.true, c.len.ensures)
    in
    let same = c.deref_mut.ensures.value in
    let way = subst (λ (unmet_counts : List ℕ). IsOrdering c.args.plan.now c.loop-next.next [] unmet_counts
    c.loop-next.order.items)
    (sym same) c.loop-next.invariant in
    let start = meeting_starts plan c.loop-next.next c.of.result.now c.deref_mut.result.now
    c.in_ok-leaders.unmet_counts.items
    c.loop-next.order.items c.in_ok-leaders.leaders c.index-event.result.now c.in_ok-leaders.ensures way turn
    c.index-event.ensures c.of.ensures in
    let back = written_back c.loop-next.unmet_counts.len c.meet.new.unmet_counts c.loop-next.unmet_counts.items
    c.loop-next.unmet_counts.ok.0
    (c.meet.auto.unmet_counts ∙ ap length same) in
    subst (λ (unmet_counts : List ℕ). IsOrdering c.args.plan.now (c.loop-next.next + 1) [] unmet_counts
    c.meet.new.order.items)
    (sym back)
    (meets_all plan c.loop-next.next c.of.result.now c.meet.new.unmet_counts c.meet.new.order.items
    (c.in_ok-meet.ensures plan c.loop-next.next start))
