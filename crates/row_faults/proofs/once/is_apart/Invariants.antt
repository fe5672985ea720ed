use Rattle.std.proofs.Common.{◌≡◌, true, length}
use Rattle.row_faults.specs.{Apart.is_apart, View.{row_fault_view, row_faults_view}}
use Rattle.row_faults.proofs.once.is_apart.Given as goal

abbrev pub invariant-loop-rest : goal.invariant-loop-rest
invariant-loop-rest l = is_apart (row_fault_view l.fault) (row_faults_view l.rest) ≡ true
    → is_apart (row_fault_view l.fault) (row_faults_view l.after) ≡ true

abbrev pub decreases-loop-rest : goal.decreases-loop-rest
decreases-loop-rest l = length l.rest
