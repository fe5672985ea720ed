use Rattle.std.proofs.Common.{map, ap, sym, ◌∙◌, Some, List}
use Rattle.yaml_subset.specs.{declared.tree.{Key.Key, Tree.Tree}, View.{node_view, pair_view, pairs_in}}
use Rattle.yaml_subset.proofs.Views.{pairs_in-Map}
use Rattle.yaml_subset.proofs.tree.Tree.as_map.Goals as goal

pub returns-in-Map : goal.returns-in-Map
returns-in-Map c =
    ap (λ (ps : List (Key × Tree)). Some (map pair_view ps)) c.deref.ensures.value
    ∙ sym (pairs_in-Map c.in-Map.field-0 c.in-Map.pairs)
    ∙ ap (λ (t : Tree). pairs_in (node_view t)) (sym c.in-Map.is)
