-- What is below a key.
use Rattle.std.specs.Prelude.{ℕ, List, [], ◌∷◌, Option, Some, None}
use Rattle.yaml_subset.specs.{Node.{Node, Pair}, View.{text_in, items_in, pairs_in}}

-- those of a mapping or list; the empty text is taken for one with nothing in it
abbrev pub or_none : {A : Type 0} → Option (List A) → Option (List ℕ) → Option (List A)
or_none (Some xs) text = Some xs
or_none None (Some []) = Some []
or_none None (Some (b ∷ bs)) = None
or_none None None = None

-- the pairs of a mapping
unfoldable pub pairs_below : Node → Option (List Pair)
pairs_below node = or_none (pairs_in node) (text_in node)

-- the nodes of a YAML list
unfoldable pub nodes_below : Node → Option (List Node)
nodes_below node = or_none (items_in node) (text_in node)
