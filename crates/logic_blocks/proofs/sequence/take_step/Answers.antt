use Rattle.std.proofs.Common.{rules}
use Rattle.logic_blocks.proofs.sequence.take_step.Goals as goal

pub returns-then-not-slot-clause-slot : goal.returns-then-not-slot-clause-slot
returns-then-not-slot-clause-slot c = search rules

pub returns-then-not-slot-clause-outcome : goal.returns-then-not-slot-clause-outcome
returns-then-not-slot-clause-outcome c = search rules

pub returns-clause-slot : goal.returns-clause-slot
returns-clause-slot c = search rules

pub returns-clause-outcome : goal.returns-clause-outcome
returns-clause-outcome c = search rules
