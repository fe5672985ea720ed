use Rattle.std.proofs.Common.{map}
use Rattle.yaml_subset.specs.View.{node_view}
use Rattle.setting_values.specs.{Reading.fields_at, KindView.{others_view, field_view}, View.fields_view}
use Rattle.config_faults.specs.Faults.{spot_view}
use Rattle.setting_values.proofs.EachGiven.{gives_each}
use Rattle.setting_values.proofs.fields.maps.Goals as goal

pub returns : goal.returns
returns c =
    let read = fields_at (map field_view c.args.table.now) (others_view c.args.others) (spot_view c.args.spot) in
    let given = gives_each node_view fields_view read c.in_ok-list_nodes.list_nodes.nodes.now c.each.result
    c.each.ensures (λ p s m. m) in
    rw c.in_ok-list_nodes.ensures given
