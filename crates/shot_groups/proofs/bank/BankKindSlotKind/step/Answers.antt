use Rattle.std.proofs.Common.{rules}
use Rattle.shot_groups.proofs.bank.BankKindSlotKind.step.Goals as goal

pub returns-in-Hit-clause-slot : goal.returns-in-Hit-clause-slot
returns-in-Hit-clause-slot c = search rules

pub returns-in-Hit-clause-outcome : goal.returns-in-Hit-clause-outcome
returns-in-Hit-clause-outcome c = search rules

pub returns-clause-slot : goal.returns-clause-slot
returns-clause-slot c = search rules

pub returns-clause-outcome : goal.returns-clause-outcome
returns-clause-outcome c = search rules
