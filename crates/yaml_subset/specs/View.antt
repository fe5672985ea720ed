-- What contracts see of a tree, and of an answer.
use Rattle.std.specs.{Prelude.{◌≡◌, ℕ, List, map, Option, Some, None, Result, Ok, Err}, Cow.cow_slice_items}
pub use Rattle.yaml_bytes.specs.View.{option_slice}
use Rattle.yaml_subset.specs.declared.fault.{TextFault.TextFault, YamlFault.YamlFault}
use Rattle.yaml_subset.specs.declared.fault.YamlFault.TheVariants as faults
use Rattle.yaml_subset.specs.declared.tree.{Key.Key, Tree.{Tree, fold-Tree, TheOpen.Tree-F}, Word.Word}
use Rattle.yaml_subset.specs.declared.tree.Word.TheVariants as words
use Rattle.yaml_subset.specs.Node.{Node, scalar, sequence, mapping, Pair, nodes_of, list_nodes, pairs_of, list_pairs}

-- the bytes of a word
abbrev pub word_bytes : Word → List ℕ
word_bytes (words.Borrowed text) = text.now
word_bytes (words.Owned text) = text.value.items

-- one level of a tree, each value in it seen already
abbrev pub pair_step : (Key × Node) → Pair
pair_step p = record { line = p.0.line; key = cow_slice_items p.0.text; value = p.1 }

abbrev pub node_step : Tree-F Node → Node
node_step (Tree-F.Scalar n text) = scalar n (word_bytes text)
node_step (Tree-F.List n items) = sequence n (nodes_of items.items)
node_step (Tree-F.Map n pairs) = mapping n (pairs_of (map pair_step pairs.items))

-- the node that a tree is
abbrev pub node_view : Tree → Node
node_view = fold-Tree Node node_step

-- the pair that a key and its tree are
abbrev pub pair_view : (Key × Tree) → Pair
pair_view p = record { line = p.0.line; key = cow_slice_items p.0.text; value = node_view p.1 }

-- the line of a node
abbrev pub line_of : Node → ℕ
line_of (scalar n text) = n
line_of (sequence n items) = n
line_of (mapping n pairs) = n

-- the text of a scalar
abbrev pub text_in : Node → Option (List ℕ)
text_in (scalar n text) = Some text
text_in _ = None

-- the nodes of a list
abbrev pub items_in : Node → Option (List Node)
items_in (sequence n items) = Some (list_nodes items)
items_in _ = None

-- the pairs of a mapping
abbrev pub pairs_in : Node → Option (List Pair)
pairs_in (mapping n pairs) = Some (list_pairs pairs)
pairs_in _ = None

-- An answer, seen by view, is what reading gives, unless memory ran out.
abbrev pub FailsTree : {Y : Type 0} → YamlFault → Result Y TextFault → Type 0
FailsTree faults.NoMemory read = Unit {0}
FailsTree (faults.Text f) read = read ≡ Err f

abbrev pub GivesTree : {X Y : Type 0} → (X → Y) → Result X YamlFault → Result Y TextFault → Type 0
GivesTree view (Ok x) read = read ≡ Ok (view x)
GivesTree view (Err e) read = FailsTree e read
