use Rattle.std.proofs.Common.{◌≡◌, ◌+◌, ◌≤◌, length, map, filter, drop}
use Rattle.yaml_subset.specs.View.{node_view}
use Rattle.setting_values.specs.Reading.{counts}
use Rattle.setting_values.proofs.lists.item_count.Given as goal

abbrev pub invariant-loop-node : goal.invariant-loop-node
invariant-loop-node l = (l.count ≤ l.node-index)
    × (l.count + length (filter counts (map node_view (drop l.node-index l.nodes)))
    ≡ length (filter counts (map node_view l.nodes)))
