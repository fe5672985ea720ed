use Rattle.std.proofs.Common.{◌≡◌, length}
use Rattle.plan_tables.{specs.PlanFields.lists_view, proofs.ListsBy.{RowsListed, row_mode}}
use Rattle.plan_tables.proofs.placing.rows_by_mode.Given as goal

abbrev pub invariant-loop-number : goal.invariant-loop-number
invariant-loop-number l = record {
  count : length l.lists.items ≡ l.modes;
  listed : RowsListed row_mode l.rows l.number (lists_view l.lists.items);
}
