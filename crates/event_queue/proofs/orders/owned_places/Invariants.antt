use Rattle.event_queue.proofs.Handling.{HasFirstOwned}
use Rattle.event_queue.proofs.orders.owned_places.Given as goal

abbrev pub invariant-loop-number : goal.invariant-loop-number
invariant-loop-number l = HasFirstOwned l.plan l.number l.places_of_modes.items
