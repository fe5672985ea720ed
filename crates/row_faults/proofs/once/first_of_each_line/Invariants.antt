use Rattle.std.proofs.Common.{◌≡◌, ◌++◌, []}
use Rattle.yaml_subset.specs.Keys.{copies_view}
use Rattle.row_faults.specs.{RowFaults.listed_once, View.row_faults_view}
use Rattle.row_faults.proofs.once.first_of_each_line.Given as goal

abbrev pub invariant-loop-fault : goal.invariant-loop-fault
invariant-loop-fault l = row_faults_view l.order.items
    ++ listed_once (copies_view l.lines) (row_faults_view l.fault-iterator.rest.items)
    ≡ listed_once [] (row_faults_view l.fn.faults.items)
