use Rattle.event_queue.proofs.Least.{alarms_give_the_least}
use Rattle.event_queue.proofs.law.alarms_give_the_least.Goals as goal

pub returns : goal.returns
returns c = alarms_give_the_least
