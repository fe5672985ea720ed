use Rattle.std.proofs.{Common.rules, lemmas.{List.append_assoc, Result.IfOk-equal}}
use Rattle.plan_parts.proofs.collect_devices.collect_block_acts.Goals as goal

pub returns : goal.returns
returns c = search (rules, IfOk-equal, append_assoc)
