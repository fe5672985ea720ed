use Rattle.std.proofs.Common.{rules}
use Rattle.event_queue.proofs.Put.{put-at}
use Rattle.event_queue.proofs.orders.put_in.Goals as goal

pub returns-clause-items : goal.returns-clause-items
returns-clause-items c = search (rules, put-at)
