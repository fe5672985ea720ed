use Rattle.std.proofs.Common.{length}
use Rattle.row_faults.specs.{Plain.ArePlain, View.row_faults_view}
use Rattle.row_faults.proofs.once.are_plain.Given as goal

abbrev pub invariant-loop-rest : goal.invariant-loop-rest
invariant-loop-rest l = ArePlain (row_faults_view l.rest) → ArePlain (row_faults_view l.faults)

abbrev pub decreases-loop-rest : goal.decreases-loop-rest
decreases-loop-rest l = length l.rest
