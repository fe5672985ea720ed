use Rattle.std.proofs.Common.{◌≡◌, ◌++◌}
use Rattle.row_faults.specs.View.{row_faults_view}
use Rattle.row_faults.proofs.rows.add_all.Given as goal

abbrev pub invariant-loop-fault : goal.invariant-loop-fault
invariant-loop-fault l = row_faults_view l.faults.items ++ row_faults_view l.fault-iterator.rest.items
    ≡ row_faults_view l.initial.faults.items ++ row_faults_view l.fn.own.items
