use Rattle.std.proofs.Common.{rules}
use Rattle.machine_definitions.proofs.Finding.{name-found}
use Rattle.machine_definitions.proofs.definitions.Definitions.has_switch.Goals as goal

pub returns : goal.returns
returns c = search (rules, name-found)
