use Rattle.std.proofs.Common.{rules}
use Rattle.row_faults.proofs.RowFaults.{lists-new, lists-again}
use Rattle.row_faults.proofs.once.first_of_each_line.Goals as goal

pub loop-fault-preserved-in-Continue-branch-2 : goal.loop-fault-preserved-in-Continue-branch-2
loop-fault-preserved-in-Continue-branch-2 c = search (rules, lists-new)

pub loop-fault-preserved : goal.loop-fault-preserved
loop-fault-preserved c = search (rules, lists-again)
