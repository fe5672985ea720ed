use Rattle.std.proofs.{Common.{rules, to_z, of_z}, lemmas.Int.to_z-of_z}
use Rattle.machine_core.proofs.actions.run_by.Goals as goal

pub change_variable-requires-clause-variable : goal.change_variable-requires-clause-variable
change_variable-requires-clause-variable g c = search rules

pub change_variable-requires-clause-room : goal.change_variable-requires-clause-room
change_variable-requires-clause-room g c = search (rules, to_z, of_z, to_z-of_z)

pub returns-in-Change : goal.returns-in-Change
returns-in-Change g c = search (rules, to_z, of_z, to_z-of_z)
