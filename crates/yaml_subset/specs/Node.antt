-- The nodes that a text can say, apart from where they lie in memory.
use Rattle.std.specs.Prelude.{ℕ, List, [], ◌∷◌}

-- A node has its line. A mapping has for each pair the key's line, the key and the value.
mutual
  pub data Node : Type 0 where
    scalar : ℕ → List ℕ → Node
    sequence : ℕ → Nodes → Node
    mapping : ℕ → Pairs → Node

  pub data Nodes : Type 0 where
    no_nodes : Nodes
    node : Node → Nodes → Nodes

  pub data Pairs : Type 0 where
    no_pairs : Pairs
    pair : ℕ → List ℕ → Node → Pairs → Pairs

-- a key with its line, and its value
pub record Pair : Type 0 where
  pub line : ℕ
  pub key : List ℕ
  pub value : Node

-- a list of nodes, as a sequence holds it, and back
abbrev pub nodes_of : List Node → Nodes
nodes_of [] = no_nodes
nodes_of (t ∷ ts) = node t (nodes_of ts)

abbrev pub list_nodes : Nodes → List Node
list_nodes no_nodes = []
list_nodes (node t ts) = t ∷ list_nodes ts

-- a list of pairs, as a mapping holds it, and back
abbrev pub pairs_of : List Pair → Pairs
pairs_of [] = no_pairs
pairs_of (p ∷ ps) = pair p.line p.key p.value (pairs_of ps)

abbrev pub list_pairs : Pairs → List Pair
list_pairs no_pairs = []
list_pairs (pair line key value ps) = record { line = line; key = key; value = value } ∷ list_pairs ps
