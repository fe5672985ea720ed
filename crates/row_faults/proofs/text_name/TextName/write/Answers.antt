use Rattle.std.proofs.Common.{rules}
use Rattle.row_faults.proofs.Plain.{printed}
use Rattle.row_faults.proofs.text_name.TextName.write.Goals as goal

pub returns-then-is_plain : goal.returns-then-is_plain
returns-then-is_plain g c = search (rules, printed)
