use Rattle.std.proofs.{Common.{rules, unwrap_or}, lemmas.Iterator.Adapters.option_map_id}
use Rattle.machine_definitions.proofs.Finding.{value-found}
use Rattle.row_faults.proofs.targets.number_of.Goals as goal

pub returns-in-Some : goal.returns-in-Some
returns-in-Some c = search (rules, option_map_id, value-found, unwrap_or)

pub returns-in-None : goal.returns-in-None
returns-in-None c = search (rules, option_map_id, value-found, unwrap_or)
