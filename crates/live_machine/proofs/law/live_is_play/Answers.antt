use Rattle.live_machine.proofs.Laws.{answers_are_play, live_play, live_run}
use Rattle.live_machine.proofs.law.live_is_play.Goals as goal

pub returns-clause-answers : goal.returns-clause-answers
returns-clause-answers c = answers_are_play

pub returns-clause-end : goal.returns-clause-end
returns-clause-end c = live_play

pub returns-clause-run : goal.returns-clause-run
returns-clause-run c = live_run
