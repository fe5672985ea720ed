use Rattle.event_queue.{specs.OrderedLists.HasOrders, proofs.Handling.first_of}
use Rattle.event_queue.proofs.orders.first_orders.Given as goal

abbrev pub invariant-loop-number : goal.invariant-loop-number
invariant-loop-number l = HasOrders l.plan (first_of l.plan l.running l.number) l.orders.items
