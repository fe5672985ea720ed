use Rattle.std.proofs.Common.{map}
use Rattle.yaml_subset.specs.View.{pair_view}
use Rattle.setting_values.specs.{Reading.{keyed_at, keyed_list_at}, View.keyed_view, KindView.{scalar_view, field_view}}
use Rattle.setting_values.proofs.EachGiven.{gives_each}
use Rattle.setting_values.proofs.fields.keyed_list.Goals as goal

pub returns : goal.returns
unfolding keyed_list_at
returns c =
    let read = keyed_at c.args.spot.text.now (map field_view c.args.table.now) c.args.at (scalar_view c.args.short) in
    let given = gives_each pair_view keyed_view read c.in_ok-below.below.pairs.now c.each.result c.each.ensures
    (λ p s m. m) in
    rw c.in_ok-below.ensures given
