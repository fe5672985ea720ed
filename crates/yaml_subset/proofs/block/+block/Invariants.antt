use Rattle.std.proofs.Common.{◌≡◌, ◌+◌, ◌*◌, ◌-◌, ◌∷◌, drop, length, map, true, false, []}
use Rattle.yaml_subset.specs.Reading.{tree_at, hangs, pairs_at, sequence_items_at, groups_of}
use Rattle.yaml_subset.specs.{Keys.{copies_view, HasNoneOrAll}, View.{node_view, pair_view}}
use Rattle.yaml_subset.{proofs.Groups.with_front, specs.{Flow.keys_of, ParserViews.lines_view}}
use Rattle.yaml_subset.proofs.block.+block.Given as goal

abbrev pub decreases-block : goal.decreases-block
decreases-block l = 4 * l.levels

abbrev pub decreases-value : goal.decreases-value
decreases-value l = 4 * l.levels + 1

abbrev pub decreases-pair : goal.decreases-pair
decreases-pair l = 4 * l.levels + 2

abbrev pub decreases-item : goal.decreases-item
decreases-item l = 4 * l.levels + 2

abbrev pub decreases-mapping : goal.decreases-mapping
decreases-mapping l = 4 * l.levels + 3

abbrev pub decreases-sequence : goal.decreases-sequence
decreases-sequence l = 4 * l.levels + 3

abbrev pub invariant-mapping-loop-at : goal.invariant-mapping-loop-at
invariant-mapping-loop-at l = record {
  known : HasNoneOrAll (copies_view l.keys) (keys_of (map pair_view l.pairs.items));
  so_far : with_front (map pair_view l.pairs.items)
      (pairs_at 8 (tree_at l.levels 8) l.around l.indent (keys_of (map pair_view l.pairs.items))
      (groups_of (hangs true l.indent) (lines_view (drop l.at (l.first ∷ l.others)))))
      ≡ pairs_at 8 (tree_at l.levels 8) l.around l.indent []
      (groups_of (hangs true l.indent) (lines_view (l.first ∷ l.others)));
}

abbrev pub decreases-mapping-loop-at : goal.decreases-mapping-loop-at
decreases-mapping-loop-at l = length l.others + 1 - l.at

abbrev pub invariant-sequence-loop-at : goal.invariant-sequence-loop-at
invariant-sequence-loop-at l =
    with_front (map node_view l.items.items)
    (sequence_items_at 8 (tree_at l.levels 8) l.around l.indent
    (groups_of (hangs false l.indent) (lines_view (drop l.at (l.first ∷ l.others)))))
    ≡ sequence_items_at 8 (tree_at l.levels 8) l.around l.indent
    (groups_of (hangs false l.indent) (lines_view (l.first ∷ l.others)))

abbrev pub decreases-sequence-loop-at : goal.decreases-sequence-loop-at
decreases-sequence-loop-at l = length l.others + 1 - l.at
