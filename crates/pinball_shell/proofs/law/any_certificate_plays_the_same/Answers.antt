use Rattle.pinball_shell.proofs.SamePlay.{plays_the_same}
use Rattle.pinball_shell.proofs.law.any_certificate_plays_the_same.Goals as goal

pub returns : goal.returns
returns c = plays_the_same
