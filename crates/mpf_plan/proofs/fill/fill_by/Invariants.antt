use Rattle.std.proofs.Common.{◌≡◌, take}
use Rattle.plan_rows.specs.View.{row_list_view}
use Rattle.plan_parts.specs.RowViews.{machine_text, parts_from, text_view}
use Rattle.mpf_plan.{specs.Drafting.IsDraftOf, proofs.Walk.text_from}
use Rattle.mpf_plan.proofs.fill.fill_by.Given as goal

abbrev pub invariant-loop-row : goal.invariant-loop-row
invariant-loop-row l = record {
  made : IsDraftOf (parts_from l.definitions.machine machine_text (take l.row-index (row_list_view l.rows))) l.draft;
  text : text_view l.text ≡ text_from l.definitions.machine machine_text (take l.row-index (row_list_view l.rows));
}
