use Rattle.std.proofs.Common.{rules}
use Rattle.row_faults.proofs.Ungrouped.{by_own}
use Rattle.row_faults.proofs.rows.faults_of_text.Goals as goal

pub returns-clause-faults : goal.returns-clause-faults
returns-clause-faults c = search (rules, by_own)
