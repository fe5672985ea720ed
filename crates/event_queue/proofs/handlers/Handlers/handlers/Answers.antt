use Rattle.std.proofs.Common.{rules, get_or, ltb-true, ltb-false}
use Rattle.event_queue.proofs.OfEvent.{no-handlers, in_order-within}
use Rattle.event_queue.proofs.handlers.Handlers.handlers.Goals as goal

pub returns-in-Some-clause-places : goal.returns-in-Some-clause-places
returns-in-Some-clause-places c = search (rules, ltb-true, get_or)

pub returns-in-Some-clause-within : goal.returns-in-Some-clause-within
returns-in-Some-clause-within c = search (rules, returns-in-Some-clause-places, in_order-within)

pub returns-in-None-clause-places : goal.returns-in-None-clause-places
returns-in-None-clause-places c = search (rules, ltb-false, no-handlers)
