use Rattle.std.proofs.Common.{◌≡◌, ◌++◌}
use Rattle.row_faults.proofs.once.first_of_each.Given as goal

abbrev pub invariant-loop-fault : goal.invariant-loop-fault
invariant-loop-fault l = l.order.items ++ l.fault-iterator ≡ l.initial.fault-iterator
