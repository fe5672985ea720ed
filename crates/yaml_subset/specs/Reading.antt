-- Reading a text from its first line to its last, with the first fault that is met.
use Rattle.std.specs.Prelude.{ℕ, zero, suc, ◌+◌, ◌-◌, ◌^◌, Bool, true, false, ◌&&◌, ◌||◌, List, [], ◌∷◌, ◌++◌, take}
use Rattle.std.specs.Prelude.{length, Option, Some, None, Result, Ok, Err, nat_lt, ◌==◌, if◌then◌else◌}
use Rattle.std.specs.{Str.{chars, encode_utf8_all, Lossy.utf8_valid_len}, Option.option_to_list}
use Rattle.yaml_subset.specs.declared.{fault.TextFault.TextFault, place.PlacedFault.PlacedFault}
use Rattle.yaml_subset.specs.declared.fault.TextFaultKind.{TextFaultKind, TheVariants.{NotInSubset, TooDeep, TooLong}}
use Rattle.yaml_subset.specs.{Placed.fault_at, TextLines.TextLine, TreeOf.{Group, is_deeper, hangs_from_entry}}
use Rattle.yaml_subset.specs.declared.fault.TextFaultKind.TheVariants.{NotUtf8, Tab, Indent, DuplicateKey, Flow}
use Rattle.yaml_subset.specs.{Keys.is_among, Words.word_at, Flow.{begins_bracket, flow_at}}
use Rattle.yaml_bytes.specs.Bytes.{begins_blank, is_over, is_document_marker, characters, is_forbidden}
use Rattle.yaml_bytes.specs.{Results.◌>>=◌, Lines.lines_of}
use Rattle.yaml_subset.specs.Node.{Node, scalar, sequence, nodes_of, mapping, no_pairs, Pair, pairs_of}
use Rattle.yaml_bytes.specs.Scanning.{behind_blanks, spaces_len, behind_spaces, behind_dash, before_colon}

-- a fault at the beginning of a line
abbrev pub fault_of : {A : Type 0} → TextFaultKind → TextLine → Result A PlacedFault
fault_of kind l = fault_at kind l.number (length l.text)

-- ---- one line

-- what a line begins: an item, with what comes after its `-`; an entry, with its key and what comes after its colon; or
-- a value
pub data LineHead : Type 0 where
  item : List ℕ → LineHead
  entry : List ℕ → List ℕ → LineHead
  alone : Node → LineHead

-- after a word: the colon of a key, or nothing but a comment
unfoldable pub word_head : ℕ → List ℕ → List ℕ → LineHead
word_head n value [] = alone (scalar n value)
word_head n value (b ∷ after) = if b == 58 then entry value after else alone (scalar n value)

-- after a list or mapping: nothing but a comment
unfoldable pub flow_head : ℕ → Node × List ℕ → Result LineHead PlacedFault
flow_head n r = if is_over r.1 then Ok (alone r.0) else fault_at Flow n (length r.1)

-- an entry or a value
unfoldable pub text_head : ℕ → ℕ → List ℕ → Result LineHead PlacedFault
text_head depth n text =
    if begins_bracket text
    then (flow_at depth n text >>= λ r. flow_head n r)
    else (word_at n false text >>= λ r. Ok (word_head n r.0 r.1))

unfoldable pub head_from : ℕ → ℕ → List ℕ → Option (List ℕ) → Result LineHead PlacedFault
head_from depth n text None = text_head depth n text
head_from depth n text (Some after) = Ok (item after)

unfoldable pub head_at : ℕ → ℕ → List ℕ → Result LineHead PlacedFault
head_at depth n text = head_from depth n text (behind_dash text)

-- a word that is a key, since its colon comes next, and what comes after the colon
unfoldable pub key_in : List ℕ → List ℕ → Option (List ℕ × List ℕ)
key_in word [] = None
key_in word (b ∷ after) = if b == 58 then Some (word, after) else None

unfoldable pub key_from : Result (List ℕ × List ℕ) PlacedFault → Option (List ℕ × List ℕ)
key_from (Ok w) = key_in w.0 w.1
key_from (Err f) = None

-- the key of a line that is an entry, and what comes after its colon; of any other line nothing, whatever it holds
unfoldable pub key_at : ℕ → List ℕ → Option (List ℕ × List ℕ)
key_at n text = key_from (word_at n false text)

-- where a value has to be, at the front of a text
unfoldable pub node_from : ℕ → List ℕ → LineHead → Result Node PlacedFault
node_from n text (item after) = fault_at NotInSubset n (length text)
node_from n text (entry key after) = fault_at NotInSubset n (length after + 1)
node_from n text (alone t) = Ok t

-- what comes after the colon of an entry or the `-` of an item: a value or nothing
unfoldable pub inline_at : ℕ → ℕ → List ℕ → Result (Option Node) PlacedFault
inline_at depth n text = if is_over (behind_blanks text) then Ok None else
    (head_at depth n (behind_blanks text) >>= λ h. node_from n (behind_blanks text) h >>= λ t. Ok (Some t))

-- ---- blocks

-- whether a line hangs from an entry, or else from an item
abbrev pub hangs : Bool → ℕ → TextLine → Bool
hangs true i l = hangs_from_entry i l
hangs false i l = is_deeper i l

-- reading the lines of a block, within a block at an indentation or within none
abbrev pub BlockReader : Type 0
BlockReader = Option ℕ → List TextLine → Result Node PlacedFault

-- the lines that hang at the front, and the groups after them
abbrev pub chunk_step : Bool → TextLine → List TextLine × List Group → List TextLine × List Group
chunk_step true l r = (l ∷ r.0, r.1)
chunk_step false l r = ([], record { head = l; below = r.0 } ∷ r.1)

abbrev pub chunks : (TextLine → Bool) → List TextLine → List TextLine × List Group
chunks hangs [] = ([], [])
chunks hangs (l ∷ ls) = chunk_step (hangs l) l (chunks hangs ls)

-- the groups of lines, of which the first hangs from none
abbrev pub groups_of : (TextLine → Bool) → List TextLine → List Group
groups_of hangs [] = []
groups_of hangs (l ∷ ls) = record { head = l; below = (chunks hangs ls).0 } ∷ (chunks hangs ls).1

-- how many lines at the front hang
abbrev pub hanging_len : (TextLine → Bool) → List TextLine → ℕ
hanging_len hangs [] = 0
hanging_len hangs (l ∷ ls) = if hangs l then suc (hanging_len hangs ls) else 0

-- What is wrong with a line that has no place in its block: it is where the block around is, or where no open block is.
abbrev pub misplaced_line : Option ℕ → TextLine → TextFaultKind
misplaced_line None l = Indent
misplaced_line (Some around) l = if l.indent == around then NotInSubset else Indent

-- a value that is on a line, below which these lines are
unfoldable pub closed_at : Option ℕ → Node → List TextLine → Result Node PlacedFault
closed_at around t [] = Ok t
closed_at around t (l ∷ ls) = fault_of (misplaced_line around l) l

-- the value of an entry or item at the indentation i
unfoldable pub entry_value_at : BlockReader → ℕ → ℕ → Option Node → List TextLine → Result Node PlacedFault
entry_value_at block n i (Some t) below = closed_at (Some i) t below
entry_value_at block n i None [] = Ok (scalar n [])
entry_value_at block n i None (l ∷ ls) = block (Some i) (l ∷ ls)

-- The pair of a line, with the fault that comes first on it: if the line is no entry, that is at its first character.
unfoldable pub pair_from : ℕ → BlockReader → ℕ → List (List ℕ) → Group → Option (List ℕ × List ℕ)
    → Result Pair PlacedFault
pair_from depth block i before g None = fault_of NotInSubset g.head
pair_from depth block i before g (Some k) =
    if is_among before k.0
    then fault_of DuplicateKey g.head
    else (if nat_lt 1024 (characters (before_colon g.head.text k.1))
    then fault_at NotInSubset g.head.number (length k.1 + 1)
    else (inline_at depth g.head.number k.1 >>= λ inline. entry_value_at block g.head.number i inline g.below >>= λ t.
    Ok (record { line = g.head.number; key = k.0; value = t })))

unfoldable pub pair_at : ℕ → BlockReader → Option ℕ → ℕ → List (List ℕ) → Group → Result Pair PlacedFault
pair_at depth block around i before g =
    if g.head.indent == i
    then pair_from depth block i before g (key_at g.head.number g.head.text)
    else fault_of (misplaced_line around g.head) g.head

unfoldable pub pairs_at : ℕ → BlockReader → Option ℕ → ℕ → List (List ℕ) → List Group → Result (List Pair) PlacedFault
pairs_at depth block around i before [] = Ok []
pairs_at depth block around i before (g ∷ gs) = do
  p ← pair_at depth block around i before g
  ps ← pairs_at depth block around i (p.key ∷ before) gs
  Ok (p ∷ ps)

-- the mapping that lines are
unfoldable pub mapping_at : ℕ → BlockReader → Option ℕ → TextLine → List TextLine → Result Node PlacedFault
mapping_at depth block around first others =
    pairs_at depth block around first.indent [] (groups_of (hangs true first.indent) (first ∷ others)) >>= λ ps. Ok
    (mapping first.number (pairs_of ps))

-- what comes after the `-` of a line and the spaces there, as a line at its own column
abbrev pub inner : TextLine → List ℕ → TextLine
inner l after = record { number = l.number; indent = l.indent + (1 + spaces_len after); text = behind_spaces after }

-- after the `-` of an item, if this begins there
unfoldable pub item_with : ℕ → BlockReader → ℕ → Group → List ℕ → LineHead → Result Node PlacedFault
item_with depth block i g after (item behind) = fault_at NotInSubset g.head.number (length (behind_blanks after))
item_with depth block i g after (alone t) = entry_value_at block g.head.number i (Some t) g.below
item_with depth block i g after (entry key behind) =
    if begins_blank (behind_spaces after) then fault_at Tab g.head.number (length (behind_spaces after)) else block
    (Some i) (inner g.head after ∷ g.below)

unfoldable pub item_from : ℕ → BlockReader → ℕ → Group → Option (List ℕ) → Result Node PlacedFault
item_from depth block i g None = fault_of NotInSubset g.head
item_from depth block i g (Some after) =
    if is_over (behind_blanks after)
    then entry_value_at block g.head.number i None g.below
    else (head_at depth g.head.number (behind_blanks after) >>= λ h. item_with depth block i g after h)

unfoldable pub sequence_item_at : ℕ → BlockReader → Option ℕ → ℕ → Group → Result Node PlacedFault
sequence_item_at depth block around i g =
    if g.head.indent == i
    then item_from depth block i g (behind_dash g.head.text)
    else fault_of (misplaced_line around g.head) g.head

unfoldable pub sequence_items_at : ℕ → BlockReader → Option ℕ → ℕ → List Group → Result (List Node) PlacedFault
sequence_items_at depth block around i [] = Ok []
sequence_items_at depth block around i (g ∷ gs) = do
  t ← sequence_item_at depth block around i g
  ts ← sequence_items_at depth block around i gs
  Ok (t ∷ ts)

-- the sequence that lines are
unfoldable pub sequence_at : ℕ → BlockReader → Option ℕ → TextLine → List TextLine → Result Node PlacedFault
sequence_at depth block around first others =
    sequence_items_at depth block around first.indent (groups_of (hangs false first.indent) (first ∷ others)) >>= λ ts.
    Ok (sequence first.number (nodes_of ts))

-- the block that lines are, by what the first of them begins
unfoldable pub block_from : ℕ → BlockReader → Option ℕ → TextLine → List TextLine → LineHead → Result Node PlacedFault
block_from depth block around first others (item after) = sequence_at depth block around first others
block_from depth block around first others (entry key after) = mapping_at depth block around first others
block_from depth block around first others (alone t) = closed_at around t others

-- the same if no level is left
unfoldable pub deep_from : Option ℕ → TextLine → List TextLine → LineHead → Result Node PlacedFault
deep_from around first others (item after) = fault_of TooDeep first
deep_from around first others (entry key after) = fault_of TooDeep first
deep_from around first others (alone t) = closed_at around t others

unfoldable pub block_at : ℕ → (Option ℕ → TextLine → List TextLine → LineHead → Result Node PlacedFault) → BlockReader
block_at depth from around [] = Ok (mapping 1 no_pairs)
block_at depth from around (first ∷ others) = head_at depth first.number first.text >>= λ h. from around first others h

-- the tree of lines with at most so many sequences and mappings one inside the other, and of those on one line at most
-- so many
unfoldable pub tree_at : ℕ → ℕ → BlockReader
tree_at zero depth = block_at depth deep_from
tree_at (suc levels) depth = block_at depth (block_from depth (tree_at levels depth))

-- ---- texts

-- one line: its content, or nothing if it is blank or a comment
unfoldable pub content_at : ℕ → List ℕ → Result (Option TextLine) PlacedFault
content_at n raw =
    if is_over (behind_blanks raw)
    then Ok None
    else (if begins_blank (behind_spaces raw) then fault_at Tab n (length (behind_spaces raw))
    else (if is_document_marker raw then fault_at NotInSubset n (length raw)
    else Ok (Some (record { number = n; indent = spaces_len raw; text = behind_spaces raw }))))

-- how many bytes have the characters from the first one on that no line may have
abbrev pub forbidden_left : List ℕ → ℕ
forbidden_left [] = 0
forbidden_left (c ∷ cs) = if is_forbidden c then length (encode_utf8_all (c ∷ cs)) else forbidden_left cs

-- the front of a line that is UTF-8
abbrev pub utf8_front : List ℕ → List ℕ
utf8_front raw = take (utf8_valid_len raw) raw

-- the first character of a line that none may have, or its first bytes that are not UTF-8
unfoldable pub blemish_at : ℕ → List ℕ → Option PlacedFault
blemish_at n raw =
    if nat_lt 0 (forbidden_left (chars (utf8_front raw)))
    then Some
    (record {
      kind = NotInSubset;
      line = n;
      bytes_left = forbidden_left (chars (utf8_front raw))
          + (length raw - length (utf8_front raw));
    })
    else (if nat_lt (length (utf8_front raw)) (length raw) then Some
    (record { kind = NotUtf8; line = n; bytes_left = length raw - length (utf8_front raw) })
    else None)

-- A line in front of those after it; no line is read after one with a fault.
abbrev pub add_line : Result (Option TextLine) PlacedFault → Option PlacedFault → List TextLine × Option PlacedFault
    → List TextLine × Option PlacedFault
add_line (Err f) blemish r = ([], Some f)
add_line (Ok found) (Some f) r = (option_to_list found, Some f)
add_line (Ok found) None r = (option_to_list found ++ r.0, r.1)

-- the lines with content up to the first line with a fault by itself, and that fault
unfoldable pub contents_from : ℕ → List (List ℕ) → List TextLine × Option PlacedFault
contents_from n [] = ([], None)
contents_from n (raw ∷ raws) = add_line (content_at n raw) (blemish_at n raw) (contents_from (n + 1) raws)

-- whether a fault is on an earlier line, or to the left on the same one
abbrev pub is_before : PlacedFault → PlacedFault → Bool
is_before e f = nat_lt e.line f.line || ((e.line == f.line) && nat_lt f.bytes_left e.bytes_left)

-- the first of a fault and one that may be known of the last line
abbrev pub first_fault : Option PlacedFault → PlacedFault → PlacedFault
first_fault None e = e
first_fault (Some f) e = if is_before e f then e else f

-- what lines are read as, where a fault may be known of the last of them by itself
abbrev pub unless : Option PlacedFault → Result Node PlacedFault → Result Node PlacedFault
unless known (Err e) = Err (first_fault known e)
unless None (Ok t) = Ok t
unless (Some f) (Ok t) = Err f

-- a fault without its place on the line
abbrev pub without_place : Result Node PlacedFault → Result Node TextFault
without_place (Ok t) = Ok t
without_place (Err e) = Err (record { kind = e.kind; line = e.line })

-- the tree of a text, or its first fault
unfoldable pub read_at : List ℕ → Result Node TextFault
read_at text =
    if nat_lt (2 ^ 20) (length text)
    then Err (record { kind = TooLong; line = 1 })
    else without_place (unless (contents_from 1 (lines_of text)).1
    (tree_at 32 8 None (contents_from 1 (lines_of text)).0))
