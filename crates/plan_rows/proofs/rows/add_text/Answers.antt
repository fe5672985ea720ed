use Rattle.std.proofs.Common.{◌++◌, map, ◌∙◌}
use Rattle.mpf_sections.specs.View.{section_view}
use Rattle.plan_rows.specs.{Rows.rows_in, View.row_list_view}
use Rattle.plan_rows.proofs.rows.add_text.Goals as goal

pub returns-clause-rows : goal.returns-clause-rows
returns-clause-rows c =
    let before = row_list_view c.args.rows.now.items in
    let sections = map section_view c.args.sections.now in
    c.in_ok-add_sections.ensures
    ∙ (λ i. before ++ rows_in c.args.definitions.now c.args.place (λ name. c.in_ok-seats.ensures.seats name i)
    (λ name. c.in_ok-seats.ensures.destinations name i) sections)
