use Rattle.std.proofs.Common.{◌≡◌, drop, map}
use Rattle.yaml_subset.specs.View.{node_view}
use Rattle.mpf_values.{specs.{Reading.scalars_at, View.items_view}, proofs.ListNodes.with_front}
use Rattle.mpf_values.proofs.lists.scalar_items.Given as goal

abbrev pub invariant-loop-node : goal.invariant-loop-node
invariant-loop-node l = with_front (items_view l.items.items) (scalars_at (map node_view (drop l.node-index l.nodes)))
    ≡ scalars_at (map node_view l.nodes)
