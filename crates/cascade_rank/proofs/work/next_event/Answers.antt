use Rattle.std.proofs.Common.{rules}
use Rattle.cascade_rank.proofs.work.next_event.Goals as goal

pub returns-in-WillStart-clause-leads : goal.returns-in-WillStart-clause-leads
returns-in-WillStart-clause-leads c = search rules

pub returns-in-WillStart-clause-within : goal.returns-in-WillStart-clause-within
returns-in-WillStart-clause-within c = search rules

pub returns-in-Starting-clause-leads : goal.returns-in-Starting-clause-leads
returns-in-Starting-clause-leads c = search rules

pub returns-in-Starting-clause-within : goal.returns-in-Starting-clause-within
returns-in-Starting-clause-within c = search rules

pub returns-in-Started-clause-leads : goal.returns-in-Started-clause-leads
returns-in-Started-clause-leads c = search rules

pub returns-in-Started-clause-within : goal.returns-in-Started-clause-within
returns-in-Started-clause-within c = search rules

pub returns-in-Stopping-clause-leads : goal.returns-in-Stopping-clause-leads
returns-in-Stopping-clause-leads c = search rules

pub returns-in-Stopping-clause-within : goal.returns-in-Stopping-clause-within
returns-in-Stopping-clause-within c = search rules

pub returns-in-Stopped-clause-leads : goal.returns-in-Stopped-clause-leads
returns-in-Stopped-clause-leads c = search rules
