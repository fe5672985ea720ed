use Rattle.event_queue.proofs.Handling.{HasFirstRooms}
use Rattle.event_queue.proofs.orders.rooms.Given as goal

abbrev pub invariant-loop-number : goal.invariant-loop-number
invariant-loop-number l = HasFirstRooms l.plan l.number l.orders.items
