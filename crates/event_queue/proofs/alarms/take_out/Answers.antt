use Rattle.std.proofs.Common.{rules, is_some}
use Rattle.event_queue.proofs.{Put.{ordered-put, taken-at, on_some}, InOrder.before-order}
use Rattle.event_queue.proofs.alarms.take_out.Goals as goal

pub place_of-place-requires : goal.place_of-place-requires
place_of-place-requires c = search (rules, ordered-put, before-order)

pub returns-clause-items : goal.returns-clause-items
returns-clause-items c rest was = search (rules, taken-at, before-order, is_some, on_some)
