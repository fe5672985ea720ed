use Rattle.std.proofs.Common.{rules}
use Rattle.row_faults.proofs.Apart.{title-is}
use Rattle.row_faults.proofs.fault_text.write_title.Goals as goal

pub returns : goal.returns
returns g c = search (rules, title-is)
