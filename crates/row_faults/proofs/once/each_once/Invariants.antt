use Rattle.std.proofs.Common.{◌≡◌, ◌++◌, [], map}
use Rattle.row_faults.specs.{Plain.ArePlain, RowFaults.listed_once, FaultsOf.printed_line, View.row_faults_view}
use Rattle.row_faults.proofs.once.each_once.Given as goal

-- those so far, and those that are left
abbrev pub invariant-loop-fault : goal.invariant-loop-fault
invariant-loop-fault l = record {
  listed : row_faults_view l.each.keys ++ listed_once (map printed_line l.each.keys)
      (row_faults_view l.fault-iterator.rest.items) ≡ listed_once [] (row_faults_view l.fn.faults.items);
  plain : ArePlain (row_faults_view l.each.keys);
  others : ArePlain (row_faults_view l.fault-iterator.rest.items);
}
