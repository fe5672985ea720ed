use Rattle.std.{proofs.{Common.{◌≡◌, List, get_or, sym, ap, ◌∙◌, subst}, lemmas.List.at_drop_all}, specs.List.list_any}
use Rattle.plan_rows.specs.declared.rows.Row as written
use Rattle.plan_rows.specs.View.{row_list_view, row_view}
use Rattle.plan_parts.specs.RowViews.{parts_at, parts_from, parts_in, text_after, text_view}
use Rattle.mpf_plan.specs.Lacking.{lacks_part}
use Rattle.mpf_plan.proofs.{Filled.{modes_kept_few, text_next}, Lacks.{lacks_here, lacks_next, lacks_rows}}
use Rattle.mpf_plan.proofs.lacking.lacks_name_by.Goals as goal

pub loop-row-preserved : goal.loop-row-preserved
loop-row-preserved c =
    let l = c.loop-row in
    let machine = c.args.definitions.now.machine in
    let rows = c.args.rows.now in
    let after = subst (λ (r : written.Row). text_view c.after-text.result ≡ text_after (row_view r) (text_view l.text))
    c.row-item.is
    (c.after-text.ensures (modes_kept_few c.args.definitions.now rows l.row-index (text_view l.text) c.requires.rows
    c.requires.modes l.invariant.text)) in
    record {
      text = after
          ∙ ap (text_after (row_view (get_or rows l.row-index c.row-item.result))) l.invariant.text
          ∙ sym (text_next machine rows l.row-index c.row-item.result c.loop-row-test.true);
      left = lacks_next machine rows (text_view l.text) l.row-index c.row-item.result c.loop-row-test.true
          (parts_in c.collect_row.new.parts) (text_view c.after-text.result)
          (subst (λ (r : written.Row). parts_in c.collect_row.new.parts
          ≡ parts_at machine (text_view l.text) (row_view r)) c.row-item.is c.in_ok-collect_row.ensures)
          (sym c.lacks_part.ensures ∙ c.if-lacks_part.false) after
          ∙ l.invariant.left;
    }

pub returns-then-lacks_part : goal.returns-then-lacks_part
returns-then-lacks_part c =
    let l = c.loop-row in
    let machine = c.args.definitions.now.machine in
    let rows = c.args.rows.now in
    lacks_here machine rows (text_view l.text) l.row-index c.row-item.result c.loop-row-test.true
    (parts_in c.collect_row.new.parts)
    (subst (λ (r : written.Row). parts_in c.collect_row.new.parts ≡ parts_at machine (text_view l.text) (row_view r))
    c.row-item.is c.in_ok-collect_row.ensures)
    (sym c.lacks_part.ensures ∙ c.if-lacks_part.true)
    ∙ l.invariant.left
    ∙ sym (lacks_rows c.args.definitions.now rows c.requires.rows)

pub returns : goal.returns
returns c =
    let l = c.loop-row in
    let machine = c.args.definitions.now.machine in
    sym (at_drop_all (λ (rs : List written.Row). list_any (lacks_part machine)
    (parts_from machine (text_view l.text) (row_list_view rs))) c.args.rows.now l.row-index c.loop-row-test.false)
    ∙ l.invariant.left
    ∙ sym (lacks_rows c.args.definitions.now c.args.rows.now c.requires.rows)
