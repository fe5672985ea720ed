use Rattle.std.proofs.Common.{rules, append_assoc}
use Rattle.machine_folder.proofs.folder.path_in.Goals as goal

pub returns : goal.returns
returns c = search (rules, append_assoc)
