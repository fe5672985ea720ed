use Rattle.std.{proofs.Common.{◌≡◌, ◌≤◌, length}, specs.List.filter}
use Rattle.cascade_rank.specs.Marks.{mark_of, coil_ids}
use Rattle.cascade_rank.proofs.releases.count_marked.Given as goal

abbrev pub invariant-loop-number : goal.invariant-loop-number
invariant-loop-number l = record {
  total : l.total ≡ length (filter (mark_of l.marks) (coil_ids l.number));
  few : l.total ≤ l.number;
}
