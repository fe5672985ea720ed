use Rattle.std.proofs.Common.{rules}
use Rattle.event_queue.proofs.queue.Queue.take.Goals as goal

pub returns : goal.returns
returns c = search rules
