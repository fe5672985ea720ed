use Rattle.std.{proofs.Common.{rules, nat_lt, List, ℕ, position, ap, sym, subst, ◌∙◌}, specs.Option.option_map}
use Rattle.cascade_rank.specs.{Cost.{price_at, cost_of_stimuli}, Events.weight_of, Finding.cycle}
use Rattle.cascade_rank.specs.{Measures.saturate, Order.IsWholeOrder}
use Rattle.cascade_rank.proofs.{Events.event, Limits.events-few, Working.work_bound-is}
use Rattle.cascade_rank.proofs.Finds.{left_is_open, first_open_is, first_is_open, whole_order}
use Rattle.cascade_rank.proofs.work_bounds.work_bound.Goals as goal

pub overflow_cast-start : goal.overflow_cast-start
overflow_cast-start c = search (rules, nat_lt, first_is_open, events-few)

pub walk-requires-clause-unmet_counts : goal.walk-requires-clause-unmet_counts
walk-requires-clause-unmet_counts c = search (rules, left_is_open)

pub walk-requires-clause-first : goal.walk-requires-clause-first
walk-requires-clause-first c =
    let g = c.in_ok-grounding.ensures in
    let is = c.first_left.ensures ∙ ap (position (λ n. nat_lt 0 n)) c.deref.ensures.value in
    (first_is_open c.args.plan.now g.valid.entries c.in_ok-grounding.grounding.unmet_counts.items
    c.in_ok-grounding.grounding.order.items g.order c.first_left.result is c.in-Some.place c.in-Some.is).1

pub returns-in-Some : goal.returns-in-Some
returns-in-Some c =
    let g = c.in_ok-grounding.ensures in
    let is = c.first_left.ensures ∙ ap (position (λ n. nat_lt 0 n)) c.deref.ensures.value in (
      event c.in-Some.place,
      first_open_is c.args.plan.now g.valid.entries c.in_ok-grounding.grounding.unmet_counts.items
          c.in_ok-grounding.grounding.order.items g.order
          ∙ ap (option_map event) (sym is ∙ c.in-Some.is),
      ap cycle c.in_ok-walk.ensures.cycle,
    )

pub weigh_steps-requires : goal.weigh_steps-requires
weigh_steps-requires c =
    let g = c.in_ok-grounding.ensures in
    let is = c.first_left.ensures ∙ ap (position (λ n. nat_lt 0 n)) c.deref.ensures.value in
    subst (IsWholeOrder c.args.plan.now) (sym c.deref-2.ensures.value)
    (whole_order c.args.plan.now g.valid.entries c.in_ok-grounding.grounding.unmet_counts.items
    c.in_ok-grounding.grounding.order.items g.order c.first_left.result is c.in_default.is)

pub returns : goal.returns
returns c =
    let g = c.in_ok-grounding.ensures in
    let is = c.first_left.ensures ∙ ap (position (λ n. nat_lt 0 n)) c.deref.ensures.value in
    let weights = ap (λ (ws : List ℕ). price_at 1 (weight_of ws) (cost_of_stimuli c.args.plan.now))
    c.deref-3.ensures.value in (
      first_open_is c.args.plan.now g.valid.entries c.in_ok-grounding.grounding.unmet_counts.items
          c.in_ok-grounding.grounding.order.items g.order
          ∙ ap (option_map event) (sym is ∙ c.in_default.is),
      work_bound-is c.args.plan.now g.valid.entries c.in_ok-weights.weights.items c.in_ok-weights.ensures
          c.measure_stimuli.result (c.measure_stimuli.ensures.1 ∙ ap saturate weights) c.limit_steps.result
          c.limit_steps.ensures,
    )
