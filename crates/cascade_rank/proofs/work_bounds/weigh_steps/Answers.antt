use Rattle.std.proofs.Common.{◌≡◌, ◌+◌, ◌-◌, ◌^◌, List, ℕ, min, take, set, ap, refl, ◌∙◌, sym, subst, arith, length-set}
use Rattle.cascade_rank.specs.{Cost.{price_at, cost_of_event}, Events.{nth_event, weight_of}}
use Rattle.cascade_rank.proofs.Grounding.{AreWeighed, weighs_more}
use Rattle.cascade_rank.proofs.work_bounds.weigh_steps.Goals as goal

pub loop-event-preserved : goal.loop-event-preserved
loop-event-preserved c =
    let plan = c.args.plan.now in
    let order = c.args.order.now in
    let i = c.loop-event.event-index in
    let weights = c.loop-event.weights.items in
    let needed = price_at 1 (weight_of c.loop-event.weights.items)
    (cost_of_event c.args.plan.now (nth_event c.args.order.now c.loop-event.event-index)) in
    let same = ap (λ (ws : List ℕ). price_at 1 (weight_of ws)
    (cost_of_event c.args.plan.now (nth_event c.args.order.now c.loop-event.event-index))) c.deref.ensures.value in
    let capped : c.min.result ≡ min (2 ^ 64 - 1) needed =
    omega (arith, c.min.ensures, c.from.ensures, c.measure_event-steps_needed.ensures.cost.1, same) in
    record {
      count = length-set weights (nth_event order i).0 c.min.result ∙ c.loop-event.invariant.count;
      weighed =
          subst (λ (n : ℕ). AreWeighed 1 (2 ^ 64 - 1) c.args.plan.now
          (take (c.loop-event.event-index + 1) c.args.order.now)
          (set c.loop-event.weights.items (nth_event c.args.order.now c.loop-event.event-index).0 n)) (sym capped)
          (weighs_more 1 (2 ^ 64 - 1) plan c.event_count.ensures.valid.entries order c.requires.grounds c.requires.short
          weights i needed c.loop-event-test.true c.loop-event.invariant.count
          (c.requires.below i c.loop-event-test.true) c.loop-event.invariant.weighed refl);
    }
