use Rattle.std.proofs.{Common.rules, lemmas.Result.IfOk-weaker}
use Rattle.mpf_config.proofs.{TakenEntries.entries_same, BesideMachine.gains_beside}
use Rattle.mpf_config.proofs.taken.take_beside.Goals as goal

pub returns-clause-value : goal.returns-clause-value
returns-clause-value c = search (rules, entries_same)

pub returns-clause-known : goal.returns-clause-known
returns-clause-known c = search (rules, IfOk-weaker, gains_beside)
