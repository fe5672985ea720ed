use Rattle.std.proofs.Common.{◌≡◌, ◌+◌, List, ℕ, min, take, set, ap, ◌∙◌, sym, subst, arith, length-set}
use Rattle.cascade_rank.specs.{Cost.{price_at, cost_of_event}, Events.{nth_event, weight_of}, Weights.greatest}
use Rattle.cascade_rank.proofs.Grounding.{AreWeighed, weighs_more}
use Rattle.cascade_rank.proofs.least.weigh.Goals as goal

pub loop-event-preserved : goal.loop-event-preserved
loop-event-preserved c =
    let plan = c.args.plan.now in
    let order = c.args.order.now in
    let i = c.loop-event.event-index in
    let weights = c.loop-event.weights.items in
    let capped : c.min.result ≡ min (greatest + 1) c.need-least_weight.result =
    omega (arith, c.min.ensures, c.from.ensures) in
    let price_is = c.need-least_weight.ensures
    ∙ ap (λ (ws : List ℕ). price_at 0 (weight_of ws)
    (cost_of_event c.args.plan.now (nth_event c.args.order.now c.loop-event.event-index))) c.deref.ensures.value in
    record {
      count = length-set weights (nth_event order i).0 c.min.result ∙ c.loop-event.invariant.count;
      weighed =
          subst (λ (n : ℕ). AreWeighed 0 (greatest + 1) c.args.plan.now
          (take (c.loop-event.event-index + 1) c.args.order.now)
          (set c.loop-event.weights.items (nth_event c.args.order.now c.loop-event.event-index).0 n)) (sym capped)
          (weighs_more 0 (greatest + 1) plan c.event_count.ensures.valid.entries order c.requires.grounds
          c.requires.short weights i c.need-least_weight.result c.loop-event-test.true c.loop-event.invariant.count
          (c.requires.below i c.loop-event-test.true) c.loop-event.invariant.weighed price_is);
    }
