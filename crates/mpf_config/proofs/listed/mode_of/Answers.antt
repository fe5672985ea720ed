use Rattle.std.proofs.Common.{rules}
use Rattle.mpf_config.proofs.ListLoops.{mapped_at}
use Rattle.mpf_config.proofs.listed.mode_of.Goals as goal

pub returns-then-eq-clause-found : goal.returns-then-eq-clause-found
returns-then-eq-clause-found c = search (rules, mapped_at)

pub loop-place-preserved : goal.loop-place-preserved
loop-place-preserved c = search (rules, mapped_at)
