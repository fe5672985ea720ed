use Rattle.std.proofs.Common.{◌≡◌, true, length}
use Rattle.row_faults.specs.{Apart.{HaveLines, are_apart}, View.row_faults_view}
use Rattle.row_faults.proofs.once.are_apart.Given as goal

abbrev pub invariant-loop-rest : goal.invariant-loop-rest
invariant-loop-rest l = record {
  value : are_apart (row_faults_view l.rest) ≡ true → are_apart (row_faults_view l.faults) ≡ true;
  lines : HaveLines (row_faults_view l.rest) → HaveLines (row_faults_view l.faults);
}

abbrev pub decreases-loop-rest : goal.decreases-loop-rest
decreases-loop-rest l = length l.rest
