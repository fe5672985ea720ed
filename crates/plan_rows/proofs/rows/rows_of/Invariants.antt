use Rattle.std.proofs.Common.{◌≡◌, ◌++◌, map, drop}
use Rattle.mpf_config.specs.View.{mode_view}
use Rattle.plan_rows.specs.{Rows.{modes_rows, rows_of}, View.row_list_view}
use Rattle.plan_rows.proofs.rows.rows_of.Given as goal

abbrev pub invariant-loop-mode : goal.invariant-loop-mode
invariant-loop-mode l = row_list_view l.rows.items
    ++ modes_rows l.definitions l.before (map mode_view (drop l.mode-index l.modes)) ≡ rows_of l.definitions
