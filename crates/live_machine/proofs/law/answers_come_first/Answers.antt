use Rattle.live_machine.proofs.Laws.{answers_first, rounds_go_on}
use Rattle.live_machine.proofs.law.answers_come_first.Goals as goal

pub returns-clause-answers : goal.returns-clause-answers
returns-clause-answers c = answers_first

pub returns-clause-rounds : goal.returns-clause-rounds
returns-clause-rounds c = rounds_go_on
