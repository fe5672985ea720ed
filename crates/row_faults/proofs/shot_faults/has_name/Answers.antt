use Rattle.std.proofs.Common.{◌∙◌}
use Rattle.machine_definitions.proofs.Finding.{name-found}
use Rattle.row_faults.proofs.shot_faults.has_name.Goals as goal

pub returns : goal.returns
returns c = c.contains.ensures ∙ name-found c.args.names.now c.args.name.now
