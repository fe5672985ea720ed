use Rattle.std.proofs.{Common.{rules, ◌≡◌, ◌+◌, length, get_or, refl, ap, ◌∙◌}, lemmas.List.get_or_default}
use Rattle.plan_tables.specs.PlanView.{no_row}
use Rattle.plan_tables.proofs.ListsBy.{row_target, row_number, listed_none, item_listed, feeders_whole}
use Rattle.plan_tables.proofs.placing.feeders_by_target.Goals as goal

pub loop-number-init : goal.loop-number-init
loop-number-init c = record {
  count = c.in_ok-lists.ensures.0;
  listed = listed_none row_number (λ r. r.0) (λ n. refl) row_target no_row c.args.rows.now c.in_ok-lists.lists.items
      c.in_ok-lists.ensures.1;
}

pub loop-number-preserved : goal.loop-number-preserved
loop-number-preserved c =
    let rows = c.args.rows.now in
    let n = c.loop-number.number in
    let at : c.feeder_place.result ≡ row_target (get_or rows n no_row) =
    c.feeder_place.ensures ∙ ap row_target (get_or_default rows n _ no_row c.loop-number-test.true) in
    let more =
    item_listed row_number (λ r. r.0) (λ n. refl) row_target no_row rows n c.loop-number.lists.items
    c.add.new.lists.items c.feeder_place.result (length rows + 1)
    c.in_ok-add.ensures at (c.requires.targets n no_row c.loop-number-test.true) c.loop-number.invariant.count
    c.loop-number.invariant.listed in
    record { count = more.0; listed = more.1 }

pub returns : goal.returns
returns c plan same = search (rules, feeders_whole, row_target)
