use Rattle.std.proofs.Common.{rules}
use Rattle.event_queue.proofs.InOrder.{none-ordered}
use Rattle.event_queue.proofs.alarms.Alarms.new.Goals as goal

pub invariant_of-result : goal.invariant_of-result
invariant_of-result c = search (rules, none-ordered)
