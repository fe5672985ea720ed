use Rattle.std.{proofs.Common.{◌≡◌, take, drop}, specs.List.list_any}
use Rattle.plan_rows.specs.View.{row_list_view}
use Rattle.plan_parts.specs.RowViews.{machine_text, parts_from, text_view}
use Rattle.mpf_plan.{specs.Lacking.{lacks_part, parts_of_rows}, proofs.Walk.text_from}
use Rattle.mpf_plan.proofs.lacking.lacks_name_by.Given as goal

-- a name is lacking if one is in the rows that are left
abbrev pub invariant-loop-row : goal.invariant-loop-row
invariant-loop-row l = record {
  text : text_view l.text ≡ text_from l.definitions.machine machine_text (take l.row-index (row_list_view l.rows));
  left : list_any (lacks_part l.definitions.machine)
      (parts_from l.definitions.machine (text_view l.text) (row_list_view (drop l.row-index l.rows)))
      ≡ list_any (lacks_part l.definitions.machine) (parts_of_rows l.definitions l.rows);
}
