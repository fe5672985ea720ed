-- Nodes that are lists: a list text, or a YAML list of scalars.
use Rattle.std.specs.Prelude.{◌≡◌, ℕ, Bool, not, ◌==◌, List, length, map, filter}
use Rattle.yaml_subset.specs.Node.{Node, scalar, sequence, mapping, list_nodes}
use Rattle.mpf_values.specs.ListText.{IsListText}

-- an item, and the line where it is
pub record Item : Type 0 where
  pub line : ℕ
  pub text : List ℕ

abbrev pub item_at : ℕ → List ℕ → Item
item_at line text = record { line = line; text = text }

abbrev pub has_text : Item → Bool
has_text item = not (length item.text == 0)

abbrev pub scalar_node : Item → Node
scalar_node item = scalar item.line item.text

-- The items of a list: those of its text, all at the line of that text; or the nodes of a YAML list, which are scalars,
-- without the empty ones.
abbrev pub IsList : Node → List Item → Type 0
IsList (scalar line text) items = (texts : List (List ℕ)) × IsListText text texts × (items ≡ map (item_at line) texts)
IsList (sequence line nodes) items = (scalars : List Item) × (list_nodes nodes ≡ map scalar_node scalars)
    × (items ≡ filter has_text scalars)
IsList (mapping line pairs) items = ⊥
