use Rattle.std.{proofs.{Common.rules, lemmas.{List.length-map, Result.err_from_is_err_and}}, specs.Rc.rc_value}
use Rattle.setting_values.specs.Reading.{row_at}
use Rattle.section_tables.{specs.View.row_values, proofs.WrittenRows.{written-long, fails-then}}
use Rattle.section_tables.proofs.settings.row_of.Goals as goal

pub returns-in_err-overwrite-clause-row : goal.returns-in_err-overwrite-clause-row
unfolding row_at
returns-in_err-overwrite-clause-row c =
    let p = err_from_is_err_and c.from_residual-in_err-overwrite.result c.from_residual-in_err-overwrite.ensures.1 in
    let failed = rw (c.in_ok-order.ensures.items, c.requires) at
    (c.in_err-overwrite.ensures.row (rc_value c.args.bare.now).items) in
    rw (p.1, p.2) (fails-then c.in_err-overwrite.field-0.0 _ _ failed)

pub first_lacking-requires : goal.first_lacking-requires
unfolding row_values
first_lacking-requires c = search (rules, length-map, written-long)

pub returns-in-Some-clause-row : goal.returns-in-Some-clause-row
unfolding row_at row_values
returns-in-Some-clause-row c = search rules

pub returns-clause-row : goal.returns-clause-row
unfolding row_at row_values
returns-clause-row c = search rules
