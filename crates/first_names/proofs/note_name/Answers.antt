use Rattle.std.{proofs.Common.{true, refl, sym, ◌∙◌, ap, arith}, specs.Option.is_some}
use Rattle.first_names.proofs.FirstNames.{table_there, table_full, table_more, number_there, number_full, number_new}
use Rattle.first_names.proofs.note_name.Goals as goal

pub returns-in-Some-clause-names : goal.returns-in-Some-clause-names
returns-in-Some-clause-names c all is = table_there all c.args.name.now c.args.table.now c.if-table.false
    (sym c.in-Some.ensures.found) is

pub returns-in-Some-clause-number : goal.returns-in-Some-clause-number
returns-in-Some-clause-number c all is fits =
    number_there all c.args.name.now c.args.table.now c.if-table.false c.in-Some.number c.get_index_of.result
    c.get_index_of.ensures.index c.in-Some.is (sym c.in-Some.ensures.found) is

pub returns-then-number-table-clause-names : goal.returns-then-number-table-clause-names
returns-then-number-table-clause-names c all is =
    let t = c.args.table.now in
    table_full all c.args.name.now t c.if-table.false (record t { above = true }) refl refl
    (sym c.get_index_of.ensures.found ∙ ap is_some c.in_default.is)
    (omega (arith, c.len-number.ensures.len, c.if-number-table.true)) is

pub returns-then-number-table-clause-number : goal.returns-then-number-table-clause-number
returns-then-number-table-clause-number c all is fits =
    let t = c.args.table.now in
    number_full all c.args.name.now t c.if-table.false c.len-number.result
    (sym c.get_index_of.ensures.found ∙ ap is_some c.in_default.is)
    (omega (arith, c.len-number.ensures.len, c.if-number-table.true)) is fits

pub returns-clause-names : goal.returns-clause-names
returns-clause-names c all is =
    let t = c.args.table.now in
    table_more all c.args.name.now t c.if-table.false (record t { set = c.insert.new.self }) c.in_ok-from_slice.field-0
    refl c.if-table.false
    c.in_ok-from_slice.ensures.items (sym c.get_index_of.ensures.found ∙ ap is_some c.in_default.is)
    (omega (arith, c.len-number.ensures.len, c.if-number-table.false)) c.in_ok-insert.ensures.keys is

pub returns-clause-number : goal.returns-clause-number
returns-clause-number c all is fits =
    number_new all c.args.name.now c.args.table.now c.if-table.false c.len-number.result c.get_index_of.result
    c.get_index_of.ensures.index c.in_default.is
    (sym c.get_index_of.ensures.found ∙ ap is_some c.in_default.is) c.len-number.ensures.len is
