use Rattle.std.proofs.Common.{rules}
use Rattle.event_queue.proofs.Handling.{rooms-more}
use Rattle.event_queue.proofs.orders.rooms.Goals as goal

pub loop-number-preserved : goal.loop-number-preserved
loop-number-preserved c = search (rules, rooms-more)
