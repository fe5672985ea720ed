use Rattle.std.proofs.Common.{◌<◌, ◌≤◌, length, Vec, Global, vec_capacity, sym, subst, ap, ◌∙◌}
use Rattle.plan_tables.specs.declared.entries.BindingId.{BindingId}
use Rattle.event_queue.specs.OrderedLists.{put, IsOrdered, runs_before}
use Rattle.event_queue.proofs.Handling.{binding-event, event-known, order-in_order, order-room, order-added}
use Rattle.event_queue.proofs.orders.add_place.Goals as goal

pub put_in-requires-clause-order : goal.put_in-requires-clause-order
put_in-requires-clause-order c =
    let plan = c.args.plan.now in
    let known = event-known plan c.args.place c.binding.result c.binding.ensures.valid c.requires.place
    c.binding.ensures.binding in
    subst (λ (order : Vec BindingId Global). IsOrdered (runs_before plan) order.items) (sym c.index_mut.ensures.value)
    (order-in_order plan c.requires.orders.0 c.args.orders.now.items c.requires.orders.1 c.binding.result.event
    c.index_mut.result.now known)

pub put_in-requires-clause-room : goal.put_in-requires-clause-room
put_in-requires-clause-room c =
    let plan = c.args.plan.now in
    let on = binding-event plan c.args.place c.binding.result c.binding.ensures.valid c.requires.place
    c.binding.ensures.binding in
    let known = event-known plan c.args.place c.binding.result c.binding.ensures.valid c.requires.place
    c.binding.ensures.binding in
    subst (λ (order : Vec BindingId Global). length order.items < vec_capacity order) (sym c.index_mut.ensures.value)
    (order-room plan c.args.place c.binding.result.event c.requires.place on known c.requires.orders.0
    c.args.orders.now.items c.requires.orders.1 c.index_mut.result.now c.requires.orders.2)

pub returns : goal.returns
returns c takes has fresh =
    let plan = c.args.plan.now in
    let on = binding-event plan c.args.place c.binding.result c.binding.ensures.valid c.requires.place
    c.binding.ensures.binding in
    let known = event-known plan c.args.place c.binding.result c.binding.ensures.valid c.requires.place
    c.binding.ensures.binding in
    order-added plan c.args.place c.binding.result.event c.requires.place on known c.args.orders.now.items
    c.put_in.new.order takes has c.index_mut.result.now
    (subst (λ (order : Vec BindingId Global). vec_capacity order ≤ vec_capacity c.put_in.new.order)
    c.index_mut.ensures.value c.put_in.ensures.capacity) fresh
    (c.put_in.ensures.items ∙ ap (λ (order : Vec BindingId Global). put (runs_before plan) c.args.place order.items)
    c.index_mut.ensures.value)
