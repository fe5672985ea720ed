use Rattle.std.proofs.Common.{◌≡◌, ◌+◌, get_or, sym, ap, ◌∙◌, subst}
use Rattle.plan_rows.specs.declared.rows.Row as written
use Rattle.plan_rows.specs.View.{row_view}
use Rattle.plan_parts.specs.RowViews.{machine_text, parts_at, parts_from, parts_in, text_after, text_view}
use Rattle.mpf_plan.specs.Drafting.{IsDraftOf}
use Rattle.mpf_plan.proofs.Filled.{draft_next, many_events, modes_kept_few, text_next, rows_all}
use Rattle.mpf_plan.proofs.fill.fill_by.Goals as goal

pub loop-row-init : goal.loop-row-init
loop-row-init c = record { made = c.in_ok-draft.ensures; text = c.machine-text.ensures }

pub loop-row-preserved : goal.loop-row-preserved
loop-row-preserved c =
    let l = c.loop-row in
    let defined = c.args.definitions.now in
    let rows = c.args.rows.now in
    record {
      made = draft_next defined.machine rows l.row-index c.row-item.result c.loop-row-test.true l.draft
          c.add_row.new.draft (text_view l.text) (parts_in c.collect_row.new.parts)
          l.invariant.text
          (subst (λ (r : written.Row). parts_in c.collect_row.new.parts
          ≡ parts_at defined.machine (text_view l.text) (row_view r)) c.row-item.is c.in_ok-collect_row.ensures)
          c.in_ok-add_row.ensures l.invariant.made;
      text = subst (λ (r : written.Row). text_view c.after-text.result ≡ text_after (row_view r) (text_view l.text))
          c.row-item.is
          (c.after-text.ensures (modes_kept_few defined rows l.row-index (text_view l.text) c.requires.rows
          c.requires.modes l.invariant.text))
          ∙ ap (text_after (row_view (get_or rows l.row-index c.row-item.result))) l.invariant.text
          ∙ sym (text_next defined.machine rows l.row-index c.row-item.result c.loop-row-test.true);
    }

pub returns-then-is_above : goal.returns-then-is_above
returns-then-is_above c =
    let l = c.loop-row in
    let defined = c.args.definitions.now in
    let rows = c.args.rows.now in
    many_events defined.machine rows (l.row-index + 1) c.add_row.new.draft
    (draft_next defined.machine rows l.row-index c.row-item.result c.loop-row-test.true l.draft c.add_row.new.draft
    (text_view l.text) (parts_in c.collect_row.new.parts)
    l.invariant.text
    (subst (λ (r : written.Row). parts_in c.collect_row.new.parts
    ≡ parts_at defined.machine (text_view l.text) (row_view r)) c.row-item.is c.in_ok-collect_row.ensures)
    c.in_ok-add_row.ensures l.invariant.made)
    (sym c.is_above.ensures ∙ c.if-is_above.true)

pub returns : goal.returns
returns c =
    let l = c.loop-row in
    subst (λ rs. IsDraftOf (parts_from c.args.definitions.now.machine machine_text rs) l.draft)
    (rows_all c.args.rows.now l.row-index c.loop-row-test.false) l.invariant.made
