use Rattle.std.proofs.Common.{◌≤◌, Vec, Global, length, vec_capacity, sym, ap, ◌∙◌, subst, arith}
use Rattle.plan_tables.specs.declared.entries.BindingId.{BindingId}
use Rattle.event_queue.specs.OrderedLists.{put_all, IsOrdered, runs_before}
use Rattle.event_queue.proofs.Groups.{group-known, group-on, group-room, group-joined}
use Rattle.event_queue.proofs.{Handling.order-in_order, Walk.length-put_all}
use Rattle.event_queue.proofs.orders.add_group.Goals as goal

pub merge-requires-clause-order : goal.merge-requires-clause-order
merge-requires-clause-order c =
    let plan = c.args.plan.now in
    let known = group-known plan c.args.group.now c.requires.group c.binding.result c.binding.ensures.valid
    c.binding.ensures.binding in
    subst (IsOrdered (runs_before plan)) (sym
    (c.deref.ensures.value ∙ ap (λ (o : Vec BindingId Global). o.items) c.index_mut-order.ensures.value))
    (order-in_order plan c.requires.orders.0 c.args.orders.now.items c.requires.orders.1 c.binding.result.event
    c.index_mut-order.result.now known)

pub merge-requires-clause-room : goal.merge-requires-clause-room
merge-requires-clause-room c =
    let plan = c.args.plan.now in
    let group = c.args.group.now in
    let is = c.requires.group in
    let known = group-known plan group is c.binding.result c.binding.ensures.valid c.binding.ensures.binding in
    let on = group-on plan group is c.binding.result c.binding.ensures.valid c.binding.ensures.binding in
    let room = group-room plan group c.binding.result.event is.within on known is.in_turn c.args.orders.now.items
    c.requires.orders.0 c.requires.orders.1 c.index_mut-order.result.now c.requires.orders.2 in
    let order = ap length (c.deref.ensures.value
    ∙ ap (λ (o : Vec BindingId Global). o.items) c.index_mut-order.ensures.value) in
    omega (arith, room.1, order, c.requires.room)

pub replace-requires : goal.replace-requires
replace-requires c =
    let plan = c.args.plan.now in
    let group = c.args.group.now in
    let is = c.requires.group in
    let known = group-known plan group is c.binding.result c.binding.ensures.valid c.binding.ensures.binding in
    let on = group-on plan group is c.binding.result c.binding.ensures.valid c.binding.ensures.binding in
    let room = group-room plan group c.binding.result.event is.within on known is.in_turn c.args.orders.now.items
    c.requires.orders.0 c.requires.orders.1 c.index_mut-order.result.now c.requires.orders.2 in
    let order = ap length (c.deref.ensures.value
    ∙ ap (λ (o : Vec BindingId Global). o.items) c.index_mut-order.ensures.value) in
    let capacity = ap (λ (o : Vec BindingId Global). vec_capacity o) c.index_mut-order.ensures.value in
    let merged = ap length (c.deref-2.ensures.value ∙ c.merge.ensures.items)
    ∙ length-put_all (runs_before plan) group c.deref.result.now in
    omega (arith, room.0, order, capacity, merged)

pub returns-clause-orders : goal.returns-clause-orders
returns-clause-orders c takes has new =
    let plan = c.args.plan.now in
    let group = c.args.group.now in
    let is = c.requires.group in
    let known = group-known plan group is c.binding.result c.binding.ensures.valid c.binding.ensures.binding in
    let on = group-on plan group is c.binding.result c.binding.ensures.valid c.binding.ensures.binding in
    let order = c.deref.ensures.value ∙ ap (λ (o : Vec BindingId Global). o.items) c.index_mut-order.ensures.value in
    group-joined plan group c.binding.result.event is.within on known is.in_turn c.args.orders.now.items takes has
    c.index_mut-order.result.now c.replace.new.order
    (subst (λ (o : Vec BindingId Global). vec_capacity o ≤ vec_capacity c.replace.new.order)
    c.index_mut-order.ensures.value c.replace.ensures.capacity) new
    (c.replace.ensures.items ∙ c.deref-2.ensures.value ∙ c.merge.ensures.items
    ∙ ap (put_all (runs_before plan) group) order)
