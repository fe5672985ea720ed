use Rattle.pinball_shell.proofs.OneRun.{log-gives_one, log-gives_same}
use Rattle.pinball_shell.proofs.law.log_gives_one_play.Goals as goal

pub returns-clause-gives : goal.returns-clause-gives
returns-clause-gives c = log-gives_same

pub returns-clause-play : goal.returns-clause-play
returns-clause-play c = log-gives_one
