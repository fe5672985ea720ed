-- Groups of lines, and the loop over them.
use Rattle.std.proofs.Common.{rules, ◌≡◌, ℕ, zero, suc, ◌+◌, ◌-◌, ◌≤◌, Bool, ◌||◌, List, [], ◌∷◌, ◌++◌, length, take}
use Rattle.std.proofs.Common.{drop, Option, Result, Ok, refl, ap, subst, ◌∙◌, arith, append_assoc, get_or}
use Rattle.std.specs.Str.{bytes_eq}
use Rattle.std.proofs.{lemmas.List.{append-nil, length-drop, drop-drop, drop_all}, Math.Seq.{drop-cons, take-length}}
use Rattle.yaml_subset.specs.declared.place.{PlacedFault.PlacedFault, Halt.Halt}
use Rattle.yaml_subset.specs.declared.line.TextLine as lines
use Rattle.yaml_subset.specs.{Node.{Node, Pair}, Placed.HaltsAs, ParserViews.{line_view, lines_view}}
use Rattle.yaml_subset.specs.{TreeOf.Group, Keys.is_among, TextLines.TextLine}
use Rattle.yaml_bytes.specs.Results.{◌>>=◌}
use Rattle.yaml_subset.specs.Reading.{key_at, BlockReader, chunks, groups_of, hanging_len, pair_from, pair_at, pairs_at}
use Rattle.yaml_subset.specs.Reading.{sequence_item_at, sequence_items_at}

-- ---- the lines that hang, and the groups after them

chunks_step : (hangs : TextLine → Bool) (l : TextLine) (ls : List TextLine) (b : Bool) → hangs l ≡ b →
    chunks hangs ls ≡ (take (hanging_len hangs ls) ls, groups_of hangs (drop (hanging_len hangs ls) ls)) →
    chunks hangs (l ∷ ls)
    ≡ (take (hanging_len hangs (l ∷ ls)) (l ∷ ls), groups_of hangs (drop (hanging_len hangs (l ∷ ls)) (l ∷ ls)))
chunks_step hangs l ls x4 e h = search rules

chunks_at : (hangs : TextLine → Bool) (ls : List TextLine)
    → chunks hangs ls ≡ (take (hanging_len hangs ls) ls, groups_of hangs (drop (hanging_len hangs ls) ls))
chunks_at hangs [] = refl
chunks_at hangs (l ∷ ls) = chunks_step hangs l ls (hangs l) refl (chunks_at hangs ls)

lines_view-take : (n : ℕ) (ls : List lines.TextLine) → lines_view (take n ls) ≡ take n (lines_view ls)
lines_view-take zero ls = refl
lines_view-take (suc n) [] = refl
lines_view-take (suc n) (l ∷ ls) = ap (λ (xs : List TextLine). line_view l ∷ xs) (lines_view-take n ls)

lines_view-drop : (n : ℕ) (ls : List lines.TextLine) → lines_view (drop n ls) ≡ drop n (lines_view ls)
lines_view-drop zero ls = refl
lines_view-drop (suc n) [] = refl
lines_view-drop (suc n) (l ∷ ls) = lines_view-drop n ls

pub chunks-split : (hangs : TextLine → Bool) (k : ℕ) (ls below after : List lines.TextLine)
    → k ≡ hanging_len hangs (lines_view ls) → below ≡ take k ls → after ≡ drop k ls →
    chunks hangs (lines_view ls) ≡ (lines_view below, groups_of hangs (lines_view after))
chunks-split hangs k ls below after e b a =
    rw (b, a, lines_view-take, lines_view-drop, e) (chunks_at hangs (lines_view ls))

rest_at : (n : ℕ) (ls : List lines.TextLine) → take (length ls - n) (drop n ls) ≡ drop n ls
rest_at n ls = rw (← length-drop n ls) (take-length (drop n ls))

-- the first group of the lines from a place on, where the first line is apart from the others
pub groups_at : (hangs : TextLine → Bool) (at : ℕ) (line first : lines.TextLine)
    (others below after : List lines.TextLine) → at ≤ length others → line ≡ get_or (first ∷ others) at first
    → chunks hangs (lines_view (take (length others - at) (drop at others)))
    ≡ (lines_view below, groups_of hangs (lines_view after))
    → after ≡ drop (length below) (take (length others - at) (drop at others))
    → groups_of hangs (lines_view (drop at (first ∷ others)))
    ≡ record { head = line_view line; below = lines_view below }
    ∷ groups_of hangs (lines_view (drop (at + (1 + length below)) (first ∷ others)))
groups_at hangs at line first others below after le is h a =
    let ls : List lines.TextLine = first ∷ others in
    let r = rest_at at others in
    let ch : chunks hangs (lines_view (drop at others)) ≡ (lines_view below, groups_of hangs (lines_view after)) =
    subst (λ xs. chunks hangs (lines_view xs) ≡ (lines_view below, groups_of hangs (lines_view after))) r h in
    let cut : drop at ls ≡ line ∷ drop at others = rw is (drop-cons ls at first (omega arith)) in
    let sum : suc (at + length below) ≡ at + (1 + length below) = omega arith in
    let af : after ≡ drop (at + (1 + length below)) ls = a ∙ ap (drop (length below)) r
    ∙ drop-drop (length below) at others ∙ ap (λ k. drop k ls) sum in
    let out : List TextLine × List Group → List Group = λ r. record { head = line_view line; below = r.0 } ∷ r.1 in
    ap (λ xs. groups_of hangs (lines_view xs)) cut ∙ ap out ch
    ∙ ap (λ xs. out (lines_view below, groups_of hangs (lines_view xs))) af

-- ---- keys before a pair matter only by which they are

abbrev pub SameKeys : List (List ℕ) → List (List ℕ) → Type 0
SameKeys ks js = (q : List ℕ) → is_among ks q ≡ is_among js q

bind-same : {A B : Type 0} (r : Result A PlacedFault) (f g : A → Result B PlacedFault) → ((x : A) → f x ≡ g x)
    → (r >>= f) ≡ (r >>= g)
bind-same x1 f g same = search rules

module _ (depth : ℕ) (block : BlockReader) (around : Option ℕ) (i : ℕ) where
  pair_from-same : (ks js : List (List ℕ)) (g : Group) (found : Option (List ℕ × List ℕ)) → SameKeys ks js
      → pair_from depth block i ks g found ≡ pair_from depth block i js g found
  unfolding pair_from
  pair_from-same ks js g x4 same = search rules

  pair_at-same : (ks js : List (List ℕ)) (g : Group) → SameKeys ks js
      → pair_at depth block around i ks g ≡ pair_at depth block around i js g
  unfolding pair_at
  pair_at-same ks js g same = rw (pair_from-same ks js g (key_at g.head.number g.head.text) same) refl

  pub pairs_at-same : (ks js : List (List ℕ)) (gs : List Group) → SameKeys ks js
      → pairs_at depth block around i ks gs ≡ pairs_at depth block around i js gs
  unfolding pairs_at
  pairs_at-same ks js [] same = refl
  pairs_at-same ks js (g ∷ gs) same =
      ap (λ (r : Result Pair PlacedFault). r >>= λ p. pairs_at depth block around i (p.key ∷ ks) gs >>= λ ps. Ok
      (p ∷ ps)) (pair_at-same ks js g same)
      ∙ bind-same (pair_at depth block around i js g)
      (λ p. pairs_at depth block around i (p.key ∷ ks) gs >>= λ ps. Ok (p ∷ ps))
      (λ p. pairs_at depth block around i (p.key ∷ js) gs >>= λ ps. Ok (p ∷ ps))
      (λ p. ap (λ (r : Result (List Pair) PlacedFault). r >>= λ ps. Ok (p ∷ ps))
      (pairs_at-same (p.key ∷ ks) (p.key ∷ js) gs (λ q. rw (same q) refl)))

-- ---- the loops

-- what was read so far, in front of what is still read
abbrev pub with_front : {A : Type 0} → List A → Result (List A) PlacedFault → Result (List A) PlacedFault
with_front front read = read >>= λ xs. Ok (front ++ xs)

regroup : {A : Type 0} (front : List A) (x : A) (read : Result (List A) PlacedFault)
    → with_front front (read >>= λ xs. Ok (x ∷ xs)) ≡ with_front (front ++ x ∷ []) read
regroup front x x3 = search (rules, append_assoc)

module _ (depth : ℕ) (block : BlockReader) (around : Option ℕ) (i : ℕ) (front : List Pair) (seen : List (List ℕ))
    (groups : List Group) (g : Group) (gs : List Group) (total : Result (List Pair) PlacedFault)
    (is : groups ≡ g ∷ gs) where
  pub pairs_go_on : (p : Pair) (known : List (List ℕ))
      → ((q : List ℕ) → is_among known q ≡ (bytes_eq p.key q || is_among seen q))
      → pair_at depth block around i seen g ≡ Ok p
      → with_front front (pairs_at depth block around i seen groups) ≡ total
      → with_front (front ++ p ∷ []) (pairs_at depth block around i known gs) ≡ total
  unfolding pairs_at
  pairs_go_on p known is_known h so_far = search (rules, regroup, pairs_at-same)

  pub pairs_stop : (e : Halt) → HaltsAs e (pair_at depth block around i seen g)
      → with_front front (pairs_at depth block around i seen groups) ≡ total → HaltsAs e total
  unfolding pairs_at
  pairs_stop x1 h so_far = search rules

module _ (depth : ℕ) (block : BlockReader) (around : Option ℕ) (i : ℕ) (front : List Node) (groups : List Group)
    (g : Group) (gs : List Group) (total : Result (List Node) PlacedFault) (is : groups ≡ g ∷ gs) where
  pub items_go_on : (t : Node) → sequence_item_at depth block around i g ≡ Ok t
      → with_front front (sequence_items_at depth block around i groups) ≡ total
      → with_front (front ++ t ∷ []) (sequence_items_at depth block around i gs) ≡ total
  unfolding sequence_items_at
  items_go_on t h so_far = search (rules, regroup)

  pub items_stop : (e : Halt) → HaltsAs e (sequence_item_at depth block around i g)
      → with_front front (sequence_items_at depth block around i groups) ≡ total → HaltsAs e total
  unfolding sequence_items_at
  items_stop x1 h so_far = search rules

module _ (depth : ℕ) (block : BlockReader) (around : Option ℕ) (i at : ℕ) (hangs : TextLine → Bool)
    (ls : List lines.TextLine) (past : length ls ≤ at) where
  no_groups : groups_of hangs (lines_view (drop at ls)) ≡ []
  no_groups = let none : drop at ls ≡ [] = drop_all at ls past in rw none refl

  pub pairs_done : (front : List Pair) (seen : List (List ℕ)) (total : Result (List Pair) PlacedFault)
      → with_front front (pairs_at depth block around i seen (groups_of hangs (lines_view (drop at ls)))) ≡ total
      → total ≡ Ok front
  unfolding pairs_at
  pairs_done front seen total so_far = search (rules, no_groups, append-nil)

  pub items_done : (front : List Node) (total : Result (List Node) PlacedFault)
      → with_front front (sequence_items_at depth block around i (groups_of hangs (lines_view (drop at ls)))) ≡ total
      → total ≡ Ok front
  unfolding sequence_items_at
  items_done front total so_far = search (rules, no_groups, append-nil)

pub fails_then : {A B : Type 0} (e : Halt) (read : Result A PlacedFault) (f : A → Result B PlacedFault) → HaltsAs e read
    → HaltsAs e (read >>= f)
fails_then x1 read f h = search rules

-- before anything was read
pub at_start : {A : Type 0} (read : Result (List A) PlacedFault) → with_front [] read ≡ read
at_start x1 = search rules
