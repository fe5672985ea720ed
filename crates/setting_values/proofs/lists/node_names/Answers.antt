use Rattle.std.proofs.Common.{filter}
use Rattle.yaml_subset.specs.View.{node_view}
use Rattle.setting_values.specs.{Reading.written_in, View.name_view, ValueAnswers.{is_counted, node_item_at}}
use Rattle.config_faults.specs.Faults.{spot_view}
use Rattle.setting_values.proofs.{EachGiven.gives_each, NodeLists.seen_counted}
use Rattle.setting_values.proofs.lists.node_names.Goals as goal

pub returns : goal.returns
returns c =
    let nodes = c.args.nodes.now in
    let given = gives_each node_view name_view (node_item_at written_in (spot_view c.args.spot))
    (filter is_counted nodes) c.each_counted.result c.each_counted.ensures (λ p s m. m) in
    let counted = rw c.item_count-count.ensures at c.in_ok-check_count.ensures in
    let seen = rw (seen_counted nodes) at given in
    rw counted seen
