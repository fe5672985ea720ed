-- What the reader's own contracts see of the values that it passes on.
use Rattle.std.specs.Prelude.{◌≡◌, ℕ, nat_le, ◌==◌, Bool, ◌&&◌, ◌||◌, List, map, drop, Option, Some, None, Result, Ok}
use Rattle.std.specs.{Prelude.Err, Borrow.Bor, declared.borrow.CowSlice.CowSlice}
use Rattle.std.specs.{Cow.cow_slice_items, Global.{Vec, Global}}
use Rattle.yaml_subset.specs.declared.{place.PlacedFault.PlacedFault, tree.{Key.Key, Tree.Tree}}
use Rattle.yaml_subset.specs.declared.entry.LineHead as heads
use Rattle.yaml_subset.specs.declared.line.TextLine as lines
use Rattle.yaml_subset.specs.{Node.{Node, Pair}, TextLines.TextLine, View.{node_view, pair_view}}
use Rattle.yaml_subset.specs.Reading.{LineHead, item, entry, alone}

-- An answer, seen by view, is what reading gives; memory does not run out.
abbrev pub GivesOrFaults : {X Y : Type 0} → (X → Y) → Result X PlacedFault → Result Y PlacedFault → Type 0
GivesOrFaults view (Ok x) read = read ≡ Ok (view x)
GivesOrFaults view (Err f) read = read ≡ Err f

abbrev pub node_option_view : Option Tree → Option Node
node_option_view None = None
node_option_view (Some t) = Some (node_view t)

abbrev pub head_view : heads.LineHead → LineHead
head_view (heads.TheVariants.Item after) = item after.now
head_view (heads.TheVariants.Entry key after) = entry (cow_slice_items key) after.now
head_view (heads.TheVariants.Alone t) = alone (node_view t)

abbrev pub line_view : lines.TextLine → TextLine
line_view l = record { number = l.number; indent = l.indent; text = drop l.indent l.raw.now }

abbrev pub lines_view : List lines.TextLine → List TextLine
lines_view = map line_view

abbrev pub line_option_view : Option lines.TextLine → Option TextLine
line_option_view None = None
line_option_view (Some l) = Some (line_view l)

-- a byte, a value with bytes of its own, or a word, and the part of a line that comes after it
abbrev pub byte_view : ℕ × Bor (List ℕ) → ℕ × List ℕ
byte_view r = (r.0, r.1.now)

abbrev pub quoted_view : Vec ℕ × Bor (List ℕ) → List ℕ × List ℕ
quoted_view r = (r.0.items, r.1.now)

abbrev pub word_view : CowSlice ℕ Global × Bor (List ℕ) → List ℕ × List ℕ
word_view r = (cow_slice_items r.0, r.1.now)

-- a key and what comes after its colon, or nothing
abbrev pub key_option_view : Option (CowSlice ℕ Global × Bor (List ℕ)) → Option (List ℕ × List ℕ)
key_option_view None = None
key_option_view (Some r) = Some (word_view r)

-- a node or a pair, and what comes after it on its line
abbrev pub flow_view : Tree × Bor (List ℕ) → Node × List ℕ
flow_view r = (node_view r.0, r.1.now)

abbrev pub flow_pair_view : (Key × Tree) × Bor (List ℕ) → Pair × List ℕ
flow_pair_view r = (pair_view r.0, r.1.now)

-- an ASCII character that every line may have: one that is printed, or a tab
abbrev pub is_plain_byte : ℕ → Bool
is_plain_byte b = (nat_le 32 b && nat_le b 126) || (b == 9)
