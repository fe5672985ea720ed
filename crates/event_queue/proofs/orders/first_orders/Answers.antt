use Rattle.std.proofs.Common.{◌+◌, ◌≤◌, length, Vec, Global, List, sym, subst, ap, ◌∙◌, arith}
use Rattle.std.proofs.lemmas.Option.{get_or_from_slice_get}
use Rattle.plan_tables.specs.{declared.entries.{BindingId.BindingId, Binding.Binding}, PlanView.no_binding}
use Rattle.event_queue.specs.{Handlers.{takes_part, runs_at}, OrderedLists.{HasOrders, also}}
use Rattle.event_queue.proofs.Handling.{orders-agree, first_of, first-fresh, first-more, first-same, first-all}
use Rattle.event_queue.proofs.orders.first_orders.Goals as goal
use Rattle.event_queue.proofs.orders.first_orders.Goals.{then-takes_part, else-takes_part}

pub loop-number-preserved : goal.loop-number-preserved
loop-number-preserved c =
    let plan = c.args.plan.now in
    let running = c.args.running.now in
    let n = c.loop-number.number in
    let old = c.loop-number.orders.items in
    let runs = ap (λ (b : Binding). takes_part running b.owner)
    (get_or_from_slice_get plan.bindings n c.binding.result no_binding c.binding.ensures.binding)
    ∙ sym c.takes_part.ensures in
    elim c.if-takes_part.branch [
      | then-takes_part w ↦
          let made = w.add_place.ensures (first_of plan running n) c.loop-number.invariant (first-fresh plan running n)
          in
          subst (λ (orders : List (Vec BindingId Global)). HasOrders plan (first_of plan running (n + 1)) orders)
          (sym (ap (λ v. v.items) w.orders-is))
          (orders-agree plan (also (first_of plan running n) (record { 0 = n })) w.add_place.new.orders.items made
          (first_of plan running (n + 1)) (λ p within. first-more plan running n (runs ∙ w.if-takes_part.true) p))
      | else-takes_part w ↦
          subst (λ (orders : List (Vec BindingId Global)). HasOrders plan (first_of plan running (n + 1)) orders)
          (sym (ap (λ v. v.items) w.orders-is))
          (orders-agree plan (first_of plan running n) old c.loop-number.invariant (first_of plan running (n + 1))
          (λ p within. first-same plan running n (runs ∙ w.if-takes_part.false) p))
    ]

pub returns : goal.returns
returns c =
    let plan = c.args.plan.now in
    let running = c.args.running.now in
    let n = c.loop-number.number in
    let all : length plan.bindings ≤ n = omega
    (arith, c.loop-number-test.false, c.binding_count-number-end.ensures.count) in
    orders-agree plan (first_of plan running n) c.loop-number.orders.items c.loop-number.invariant
    (runs_at plan running) (λ p within. first-all plan running n p all within)
