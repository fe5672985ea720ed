use Rattle.written_machine.proofs.Guarded.{follows-run}
use Rattle.written_machine.proofs.law.guards_follow_commands.Goals as goal

pub returns : goal.returns
returns c = follows-run
