use Rattle.yaml_subset.specs.View.{node_view}
use Rattle.setting_values.specs.{Kinds.at_least, Reading.{most_items, handled_in, listed_at}, View.step_view}
use Rattle.config_faults.specs.Faults.{spot_view}
use Rattle.setting_values.proofs.EachGiven.{gives_each}
use Rattle.setting_values.proofs.by_kind.steps.Goals as goal

pub returns : goal.returns
returns c =
    let read = listed_at handled_in most_items (at_least 1) (spot_view c.args.spot) in
    let given = gives_each node_view step_view read c.in_ok-list_nodes.list_nodes.nodes.now c.each.result
    c.each.ensures (λ p s m. m) in
    rw c.in_ok-list_nodes.ensures given
