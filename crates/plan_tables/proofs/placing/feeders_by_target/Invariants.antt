use Rattle.std.proofs.Common.{◌≡◌, ◌+◌, length}
use Rattle.plan_tables.{specs.PlanFields.lists_view, proofs.ListsBy.{RowsListed, row_target}}
use Rattle.plan_tables.proofs.placing.feeders_by_target.Given as goal

abbrev pub invariant-loop-number : goal.invariant-loop-number
invariant-loop-number l = record {
  count : length l.lists.items ≡ length l.rows + 1;
  listed : RowsListed row_target l.rows l.number (lists_view l.lists.items);
}
