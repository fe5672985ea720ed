use Rattle.std.proofs.Common.{◌≤◌, Vec, Global, length, vec_capacity, sym, ap, ◌∙◌, subst, arith}
use Rattle.plan_tables.specs.declared.entries.BindingId.{BindingId}
use Rattle.event_queue.specs.OrderedLists.{IsOrdered, runs_before}
use Rattle.event_queue.proofs.{Handling.order-in_order, Groups.{order-with-group, group-parted}}
use Rattle.event_queue.proofs.Groups.{group-known, group-on, order-short, others, others-short, others-in_order}
use Rattle.event_queue.proofs.orders.drop_group.Goals as goal

pub part-requires-clause-order : goal.part-requires-clause-order
part-requires-clause-order c =
    let plan = c.args.plan.now in
    let known = group-known plan c.args.group.now c.requires.group c.binding.result c.binding.ensures.valid
    c.binding.ensures.binding in
    subst (IsOrdered (runs_before plan)) (sym
    (c.deref.ensures.value ∙ ap (λ (o : Vec BindingId Global). o.items) c.index_mut-order.ensures.value))
    (order-in_order plan c.requires.orders.0 c.args.orders.now.items c.requires.orders.1 c.binding.result.event
    c.index_mut-order.result.now known)

pub part-requires-clause-among : goal.part-requires-clause-among
part-requires-clause-among c =
    let plan = c.args.plan.now in
    let group = c.args.group.now in
    let is = c.requires.group in
    let known = group-known plan group is c.binding.result c.binding.ensures.valid c.binding.ensures.binding in
    let on = group-on plan group is c.binding.result c.binding.ensures.valid c.binding.ensures.binding in
    let order = c.deref.ensures.value ∙ ap (λ (o : Vec BindingId Global). o.items) c.index_mut-order.ensures.value in (
      others plan group c.binding.result.event is.within on known is.in_turn c.args.orders.now.items c.requires.orders.0
          c.requires.orders.1 c.index_mut-order.result.now,
      others-in_order plan group c.binding.result.event is.within on known is.in_turn c.args.orders.now.items
          c.requires.orders.0 c.requires.orders.1 c.index_mut-order.result.now,
      order ∙ order-with-group plan group c.binding.result.event is.within on known is.in_turn c.args.orders.now.items
          c.requires.orders.0 c.requires.orders.1 c.index_mut-order.result.now c.requires.orders.2,
    )

pub part-requires-clause-room : goal.part-requires-clause-room
part-requires-clause-room c =
    let plan = c.args.plan.now in
    let group = c.args.group.now in
    let is = c.requires.group in
    let known = group-known plan group is c.binding.result c.binding.ensures.valid c.binding.ensures.binding in
    let on = group-on plan group is c.binding.result c.binding.ensures.valid c.binding.ensures.binding in
    let short = order-short plan group c.binding.result.event is.within on known is.in_turn c.args.orders.now.items
    c.requires.orders.0 c.requires.orders.1 c.index_mut-order.result.now in
    let order = ap length (c.deref.ensures.value
    ∙ ap (λ (o : Vec BindingId Global). o.items) c.index_mut-order.ensures.value) in
    omega (arith, short, order, c.requires.room)

pub replace-requires : goal.replace-requires
replace-requires c =
    let plan = c.args.plan.now in
    let group = c.args.group.now in
    let is = c.requires.group in
    let known = group-known plan group is c.binding.result c.binding.ensures.valid c.binding.ensures.binding in
    let on = group-on plan group is c.binding.result c.binding.ensures.valid c.binding.ensures.binding in
    let takes = c.requires.orders.0 in
    let has = c.requires.orders.1 in
    let d = c.index_mut-order.result.now in
    let order = c.deref.ensures.value ∙ ap (λ (o : Vec BindingId Global). o.items) c.index_mut-order.ensures.value in
    let parted =
    c.part.ensures.items (others plan group c.binding.result.event is.within on known is.in_turn c.args.orders.now.items
    takes has d)
    (others-in_order plan group c.binding.result.event is.within on known is.in_turn c.args.orders.now.items takes has
    d)
    (order ∙ order-with-group plan group c.binding.result.event is.within on known is.in_turn c.args.orders.now.items
    takes has d c.requires.orders.2) in
    let short = others-short plan group c.binding.result.event is.within on known is.in_turn c.args.orders.now.items
    takes has d in
    omega (
      arith,
      short,
      ap length (c.deref-2.ensures.value ∙ parted),
      ap (λ (o : Vec BindingId Global). vec_capacity o) c.index_mut-order.ensures.value,
    )

pub returns-clause-orders : goal.returns-clause-orders
returns-clause-orders c takes has took =
    let plan = c.args.plan.now in
    let group = c.args.group.now in
    let is = c.requires.group in
    let known = group-known plan group is c.binding.result c.binding.ensures.valid c.binding.ensures.binding in
    let on = group-on plan group is c.binding.result c.binding.ensures.valid c.binding.ensures.binding in
    let d = c.index_mut-order.result.now in
    let order = c.deref.ensures.value ∙ ap (λ (o : Vec BindingId Global). o.items) c.index_mut-order.ensures.value in
    let parted =
    c.part.ensures.items (others plan group c.binding.result.event is.within on known is.in_turn c.args.orders.now.items
    takes has d)
    (others-in_order plan group c.binding.result.event is.within on known is.in_turn c.args.orders.now.items takes has
    d)
    (order ∙ order-with-group plan group c.binding.result.event is.within on known is.in_turn c.args.orders.now.items
    takes has d took) in
    group-parted plan group c.binding.result.event is.within on known is.in_turn c.args.orders.now.items takes has d
    c.replace.new.order
    (subst (λ (o : Vec BindingId Global). vec_capacity o ≤ vec_capacity c.replace.new.order)
    c.index_mut-order.ensures.value c.replace.ensures.capacity)
    (c.replace.ensures.items ∙ c.deref-2.ensures.value ∙ parted)
