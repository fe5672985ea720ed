use Rattle.std.proofs.Common.{◌+◌, ◌*◌, map, length}
use Rattle.yaml_subset.{specs.{Keys.{copies_view, HasNoneOrAll}, View.{node_view, pair_view}}, proofs.FlowLoops.IsSoFar}
use Rattle.yaml_subset.specs.Flow.{keys_of, between_at, flow_pair_at, flow_value_at, flow_at}
use Rattle.yaml_subset.proofs.flow.+flow.Given as goal

abbrev pub decreases-flow : goal.decreases-flow
decreases-flow l = 4 * l.levels

abbrev pub decreases-value : goal.decreases-value
decreases-value l = 4 * l.levels + 1

abbrev pub decreases-pair : goal.decreases-pair
decreases-pair l = 4 * l.levels + 2

abbrev pub decreases-list : goal.decreases-list
decreases-list l = 4 * l.levels + 3

abbrev pub decreases-mapping : goal.decreases-mapping
decreases-mapping l = 4 * l.levels + 3

abbrev pub invariant-list-loop-alloc : goal.invariant-list-loop-alloc
invariant-list-loop-alloc l =
    IsSoFar l.number 93 (λ before. flow_value_at l.number (flow_at l.levels l.number))
    (between_at l.number 93 (λ before. flow_value_at l.number (flow_at l.levels l.number)) l.after)
    (map node_view l.items.items) l.text

abbrev pub decreases-list-loop-alloc : goal.decreases-list-loop-alloc
decreases-list-loop-alloc l = length l.text

abbrev pub invariant-mapping-loop-alloc : goal.invariant-mapping-loop-alloc
invariant-mapping-loop-alloc l = record {
  known : HasNoneOrAll (copies_view l.keys) (keys_of (map pair_view l.pairs.items));
  so_far : (IsSoFar l.number) 125 (λ before. flow_pair_at l.number (flow_value_at l.number (flow_at l.levels l.number))
      (keys_of before))
      (between_at l.number 125 (λ before. flow_pair_at l.number (flow_value_at l.number (flow_at l.levels l.number))
      (keys_of before)) l.after)
      (map pair_view l.pairs.items) l.text;
}

abbrev pub decreases-mapping-loop-alloc : goal.decreases-mapping-loop-alloc
decreases-mapping-loop-alloc l = length l.text
