use Rattle.event_queue.proofs.FirstOut.{first_in_first_out, within_size}
use Rattle.event_queue.proofs.law.first_in_first_out.Goals as goal

pub returns-clause-order : goal.returns-clause-order
returns-clause-order c = first_in_first_out

pub returns-clause-size : goal.returns-clause-size
returns-clause-size c = within_size
