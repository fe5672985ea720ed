use Rattle.std.proofs.{Common.{List, set, ap, ◌∙◌}, lemmas.List.map-set}
use Rattle.setting_values.specs.{Values.Plain, View.plain_view}
use Rattle.setting_values.proofs.fields.short_row.Goals as goal

pub returns : goal.returns
returns c = map-set plain_view c.in_ok-row.row.items c.args.at c.args.value
    ∙ ap (λ (row : List Plain). set row c.args.at (plain_view c.args.value)) c.in_ok-row.ensures.row
