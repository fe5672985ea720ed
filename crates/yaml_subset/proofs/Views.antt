-- What is seen of a tree, case by case.
use Rattle.std.proofs.Common.{◌≡◌, ℕ, List, [], ◌∷◌, map, Some, Vec, Global, refl, sym, ap, ◌∙◌}
use Rattle.yaml_subset.specs.declared.tree.{Key.Key, Tree.{Tree, TheOpen.Tree-F, TheFolds.fold-roll-Tree}}
use Rattle.yaml_subset.specs.declared.tree.Tree.{TheViews.{Map, List as ListTree}, TheVariants.{rolls-Map, rolls-List}}
use Rattle.yaml_subset.specs.Node.{Node, mapping, sequence, Pair, pairs_of, nodes_of, list_nodes, list_pairs}
use Rattle.yaml_subset.specs.View.{node_view, node_step, pair_step, pair_view, items_in, pairs_in}

-- a list of pairs, taken out of its mapping again
pub list_pairs-pairs_of : (ps : List Pair) → list_pairs (pairs_of ps) ≡ ps
list_pairs-pairs_of [] = refl
list_pairs-pairs_of (p ∷ ps) = ap (λ (rest : List Pair). p ∷ rest) (list_pairs-pairs_of ps)

-- a list of nodes, taken out of its sequence again
pub list_nodes-nodes_of : (ts : List Node) → list_nodes (nodes_of ts) ≡ ts
list_nodes-nodes_of [] = refl
list_nodes-nodes_of (t ∷ ts) = ap (λ (rest : List Node). t ∷ rest) (list_nodes-nodes_of ts)

-- the fold sees each value before it makes the pair
pair_step-map : (ps : List (Key × Tree)) → map pair_step (map (λ p. (p.0, node_view p.1)) ps) ≡ map pair_view ps
pair_step-map [] = refl
pair_step-map (p ∷ ps) = ap (λ (rest : List Pair). pair_view p ∷ rest) (pair_step-map ps)

pub node_view-Map : (n : ℕ) (pairs : Vec (Key × Tree) Global)
    → node_view (Map n pairs) ≡ mapping n (pairs_of (map pair_view pairs.items))
node_view-Map n pairs =
    ap node_view (sym (rolls-Map n pairs))
    ∙ fold-roll-Tree Node node_step (Tree-F.Map n pairs)
    ∙ ap (λ (ps : List Pair). mapping n (pairs_of ps)) (pair_step-map pairs.items)

pub node_view-List : (n : ℕ) (items : Vec Tree Global)
    → node_view (ListTree n items) ≡ sequence n (nodes_of (map node_view items.items))
node_view-List n items = ap node_view (sym (rolls-List n items)) ∙ fold-roll-Tree Node node_step (Tree-F.List n items)

-- the pairs of a tree that is a mapping
pub pairs_in-Map : (n : ℕ) (pairs : Vec (Key × Tree) Global)
    → pairs_in (node_view (Map n pairs)) ≡ Some (map pair_view pairs.items)
pairs_in-Map n pairs = ap pairs_in (node_view-Map n pairs)
    ∙ ap (λ (ps : List Pair). Some ps) (list_pairs-pairs_of (map pair_view pairs.items))

-- the nodes of a tree that is a list
pub items_in-List : (n : ℕ) (items : Vec Tree Global)
    → items_in (node_view (ListTree n items)) ≡ Some (map node_view items.items)
items_in-List n items = ap items_in (node_view-List n items)
    ∙ ap (λ (ts : List Node). Some ts) (list_nodes-nodes_of (map node_view items.items))
