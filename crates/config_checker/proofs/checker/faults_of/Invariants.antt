use Rattle.std.proofs.Common.{◌≡◌, ◌++◌, map, reverse, length}
use Rattle.row_faults.specs.View.{row_faults_view}
use Rattle.config_checker.specs.{FaultView.row, View.faults_view}
use Rattle.config_checker.proofs.checker.faults_of.Given as goal

-- the faults so far, and those that are left
abbrev pub invariant-loop-fault : goal.invariant-loop-fault
invariant-loop-fault l = faults_view l.faults.items ++ map row (row_faults_view (reverse l.rest.items))
    ≡ map row (row_faults_view l.fn.own.items)

abbrev pub decreases-loop-fault : goal.decreases-loop-fault
decreases-loop-fault l = length l.rest.items
