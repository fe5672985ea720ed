-- What a text says: the tree of its lines.
use Rattle.std.specs.Prelude.{◌≡◌, ℕ, zero, suc, ◌<◌, ◌+◌, ◌^◌, nat_lt, ◌==◌, Bool, true, false, ◌&&◌, ◌||◌, List, []}
use Rattle.std.specs.{Prelude.{◌∷◌, ◌++◌, length, replicate, Option, Some, None, ◌⊎◌}, List.{Contains, AllByRecursion}}
use Rattle.yaml_bytes.specs.{Bytes.{begins_gap, begins_item}, Lines.lines_of}
use Rattle.yaml_subset.specs.Node.{Node, scalar, sequence, nodes_of, mapping, no_pairs, Pair, pairs_of}
use Rattle.yaml_subset.specs.{Values.{IsKey, IsShortKey, IsInline, IsNode}, TextLines.{TextLine, HaveContent}}

-- a line of a block, and the lines that hang from it
pub record Group : Type 0 where
  pub head : TextLine
  pub below : List TextLine

-- whether a line is deeper than an indentation
abbrev pub is_deeper : ℕ → TextLine → Bool
is_deeper i l = nat_lt i l.indent

-- Whether a line hangs from an entry at an indentation: it is deeper, or an item at this indentation.
abbrev pub hangs_from_entry : ℕ → TextLine → Bool
hangs_from_entry i l = is_deeper i l || ((l.indent == i) && begins_item l.text)

-- a line at an indentation, which hangs from none before it
abbrev pub Stands : (TextLine → Bool) → ℕ → TextLine → Type 0
Stands hangs i l = (l.indent ≡ i) × (hangs l ≡ false)

-- The lines are these groups, one after the other: each a line at the indentation, and the lines that hang from it.
abbrev pub AreGroups : (TextLine → Bool) → ℕ → List TextLine → List Group → Type 0
AreGroups hangs i lines [] = lines ≡ []
AreGroups hangs i lines (g ∷ gs) =
    (rest : List TextLine) × (lines ≡ g.head ∷ (g.below ++ rest)) × Stands hangs i g.head
    × AllByRecursion (λ l. hangs l ≡ true) g.below × AreGroups hangs i rest gs

-- The value of an entry or item on the line n: what is on its line, with nothing below; or else the block below; or
-- else the empty text.
abbrev pub IsEntryValue : (List TextLine → Node → Type 0) → ℕ → Option Node → List TextLine → Node → Type 0
IsEntryValue IsBelow n (Some u) below t = (below ≡ []) × (t ≡ u)
IsEntryValue IsBelow n None [] t = t ≡ scalar n []
IsEntryValue IsBelow n None (l ∷ ls) t = IsBelow (l ∷ ls) t

-- the pair that a group is, with a key that is none of those before it
pub record IsPair (depth : ℕ) (IsBelow : List TextLine → Node → Type 0) (before : List (List ℕ)) (g : Group)
    (p : Pair) : Type 0 where
  pub line : p.line ≡ g.head.number
  pub after : List ℕ
  pub entry : IsShortKey g.head.text p.key after
  pub fresh : Contains before p.key → ⊥
  pub inline : Option Node
  pub is_inline : IsInline depth g.head.number after inline
  pub value : IsEntryValue IsBelow g.head.number inline g.below p.value

-- the pairs that groups are, after pairs with these keys
abbrev pub ArePairs : ℕ → (List TextLine → Node → Type 0) → List (List ℕ) → List Group → List Pair → Type 0
ArePairs depth IsBelow before [] [] = Unit {0}
ArePairs depth IsBelow before [] (p ∷ ps) = ⊥
ArePairs depth IsBelow before (g ∷ gs) [] = ⊥
ArePairs depth IsBelow before (g ∷ gs) (p ∷ ps) =
    IsPair depth IsBelow before g p × ArePairs depth IsBelow (p.key ∷ before) gs ps

-- a run of entries
pub record IsMapping (depth : ℕ) (IsBelow : List TextLine → Node → Type 0) (first : TextLine) (others : List TextLine)
    (t : Node) : Type 0 where
  pub groups : List Group
  pub pairs : List Pair
  pub run : AreGroups (hangs_from_entry first.indent) first.indent (first ∷ others) groups
  pub each : ArePairs depth IsBelow [] groups pairs
  pub tree : t ≡ mapping first.number (pairs_of pairs)

-- `-`, and after it a blank or nothing
abbrev pub IsDash : List ℕ → List ℕ → Type 0
IsDash text after = (text ≡ 45 ∷ after) × (begins_gap after ≡ true)

-- What comes after the `-` of a line and the spaces there, as a line at its own column: `KEY:`.
pub record IsInner (l : TextLine) (after : List ℕ) (inner : TextLine) : Type 0 where
  pub spaces : ℕ
  pub parts : after ≡ replicate spaces 32 ++ inner.text
  pub number : inner.number ≡ l.number
  pub column : inner.indent ≡ l.indent + (1 + spaces)
  pub key : List ℕ
  pub behind : List ℕ
  pub is_key : IsKey inner.text key behind

-- The node that a group is after its `-`: a value, as entries have them, or the mapping that a key begins there.
pub record IsSequenceItem (depth : ℕ) (IsBelow : List TextLine → Node → Type 0) (g : Group) (t : Node) : Type 0 where
  pub after : List ℕ
  pub dash : IsDash g.head.text after
  pub node : ((inline : Option Node) × IsInline depth g.head.number after inline
      × IsEntryValue IsBelow g.head.number inline g.below t)
      ⊎ ((inner : TextLine) × IsInner g.head after inner × IsBelow (inner ∷ g.below) t)

-- the nodes that groups are
abbrev pub AreSequenceItems : ℕ → (List TextLine → Node → Type 0) → List Group → List Node → Type 0
AreSequenceItems depth IsBelow [] [] = Unit {0}
AreSequenceItems depth IsBelow [] (t ∷ ts) = ⊥
AreSequenceItems depth IsBelow (g ∷ gs) [] = ⊥
AreSequenceItems depth IsBelow (g ∷ gs) (t ∷ ts) =
    IsSequenceItem depth IsBelow g t × AreSequenceItems depth IsBelow gs ts

-- a run of items
pub record IsSequence (depth : ℕ) (IsBelow : List TextLine → Node → Type 0) (first : TextLine) (others : List TextLine)
    (t : Node) : Type 0 where
  pub groups : List Group
  pub nodes : List Node
  pub run : AreGroups (is_deeper first.indent) first.indent (first ∷ others) groups
  pub each : AreSequenceItems depth IsBelow groups nodes
  pub tree : t ≡ sequence first.number (nodes_of nodes)

-- one line with one value
pub record IsAlone (depth : ℕ) (first : TextLine) (others : List TextLine) (t : Node) : Type 0 where
  pub alone : others ≡ []
  pub value : IsNode depth first.number first.text t

-- No line is the empty mapping; other lines are what is said of the first and of those after it.
abbrev pub ByLines : (TextLine → List TextLine → Node → Type 0) → List TextLine → Node → Type 0
ByLines IsBlock [] t = t ≡ mapping 1 no_pairs
ByLines IsBlock (first ∷ others) t = IsBlock first others t

-- a sequence, a mapping or one value
abbrev pub IsBlock : ℕ → (List TextLine → Node → Type 0) → TextLine → List TextLine → Node → Type 0
IsBlock depth IsBelow first others t = IsSequence depth IsBelow first others t
    ⊎ (IsMapping depth IsBelow first others t ⊎ IsAlone depth first others t)

-- The tree of lines with at most so many sequences and mappings one inside the other, and of those on one line at most
-- so many.
abbrev pub IsTree : ℕ → ℕ → List TextLine → Node → Type 0
IsTree zero depth = ByLines (λ first others t. IsAlone depth first others t)
IsTree (suc levels) depth = ByLines (IsBlock depth (IsTree levels depth))

-- The tree of a text with at most so many sequences and mappings one inside the other, and of those on one line at most
-- so many.
pub record IsTreeOf (levels depth : ℕ) (text : List ℕ) (tree : Node) : Type 0 where
  pub lines : List TextLine
  pub content : HaveContent 1 (lines_of text) lines
  pub is_tree : IsTree levels depth lines tree

-- above the limits: 1 MiB of text, 32 sequences and mappings one inside the other, and of those on one line 8
abbrev pub IsTextAbove : ℕ → ℕ → List ℕ → Type 0
IsTextAbove levels depth text = (2 ^ 20 < length text) ⊎ ((32 < levels) ⊎ (8 < depth))
