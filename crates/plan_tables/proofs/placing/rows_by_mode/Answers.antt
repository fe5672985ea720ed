use Rattle.std.proofs.{Common.{rules, ◌≡◌, get_or, refl, ap, ◌∙◌}, lemmas.List.get_or_default}
use Rattle.plan_tables.specs.PlanView.{no_row}
use Rattle.plan_tables.proofs.ListsBy.{row_mode, row_number, listed_none, item_listed, mode_rows_whole}
use Rattle.plan_tables.proofs.placing.rows_by_mode.Goals as goal

pub loop-number-init : goal.loop-number-init
loop-number-init c = record {
  count = c.in_ok-lists.ensures.0;
  listed = listed_none row_number (λ r. r.0) (λ n. refl) row_mode no_row c.args.rows.now c.in_ok-lists.lists.items
      c.in_ok-lists.ensures.1;
}

pub loop-number-preserved : goal.loop-number-preserved
loop-number-preserved c =
    let rows = c.args.rows.now in
    let n = c.loop-number.number in
    let at : c.mode_place.result ≡ row_mode (get_or rows n no_row) = c.mode_place.ensures
    ∙ ap row_mode (get_or_default rows n _ no_row c.loop-number-test.true) in
    let more =
    item_listed row_number (λ r. r.0) (λ n. refl) row_mode no_row rows n c.loop-number.lists.items c.add.new.lists.items
    c.mode_place.result c.args.modes c.in_ok-add.ensures at
    (c.requires.modes n no_row c.loop-number-test.true) c.loop-number.invariant.count c.loop-number.invariant.listed in
    record { count = more.0; listed = more.1 }

pub returns : goal.returns
returns c plan count same = search (rules, mode_rows_whole, row_mode)
