use Rattle.mode_stack.proofs.WhoRuns.{starting_keeps_who_runs}
use Rattle.mode_stack.proofs.law.starting_keeps_who_runs.Goals as goal

pub returns : goal.returns
returns c = starting_keeps_who_runs
