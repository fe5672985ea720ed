use Rattle.pinball_shell.proofs.FixedPlay.{taken-played_out, answers-fix_play}
use Rattle.pinball_shell.proofs.law.answers_fix_the_play.Goals as goal

pub returns-clause-takes : goal.returns-clause-takes
returns-clause-takes c = taken-played_out

pub returns-clause-same : goal.returns-clause-same
returns-clause-same c = answers-fix_play
