use Rattle.std.proofs.Common.{rules}
use Rattle.event_queue.proofs.alarms.comes_before.Goals as goal

pub returns-then-a-b : goal.returns-then-a-b
returns-then-a-b c = search rules

pub returns-then-a-b-2 : goal.returns-then-a-b-2
returns-then-a-b-2 c = search rules

pub returns-else-a-b-2 : goal.returns-else-a-b-2
returns-else-a-b-2 c = search rules
