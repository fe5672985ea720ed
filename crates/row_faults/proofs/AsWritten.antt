-- What settings have, in the order in which they are written.
use Rattle.std.proofs.Common.{◌≡◌, ◌==◌, ℕ, nat_lt, Bool, true, false, if◌then◌else◌, List, length, [], ◌∷◌, ◌++◌, map}
use Rattle.std.{proofs.Common.{codes, refl, ap, sym, ◌∙◌, arith}, specs.List.{All, flat_map}}
use Rattle.std.proofs.lemmas.{Bool.{eqb-true, ltb-true, ltb-false}, List.append-nil}
use Rattle.section_tables.specs.Shapes.{Setting}
use Rattle.mpf_tables.specs.SectionTables as tables
use Rattle.mpf_sections.specs.{Rows.{WrittenName, Switch, BlockEvents, CounterEntry, StepBlock}, Typed.place_of}
use Rattle.row_faults.specs.AsWritten.{put_by, ordered_by, written_before, in_order, as_written}
use Rattle.row_faults.specs.Reserved.{switch_posts, block_posts, counter_posts, step_posts}
use Rattle.row_faults.proofs.{None.flat_map-none, ByLine.{ordered-all, ordered-seen}}
use Rattle.yaml_bytes.proofs.Each.{All-from_flat_map, All-from_map}

-- if what settings have is nothing in their order, each has nothing
pub order-none : {X : Type 0} (order : List ℕ) (parts : List (ℕ × List X)) → in_order order parts ≡ []
    → All (λ part. part.1 ≡ []) parts
unfolding in_order
order-none {X = X} order parts e =
    let before : ℕ × List X → ℕ = λ part. written_before order part.0 in
    let none : ℕ × List X → Type 0 = λ part. part.1 ≡ [] in
    ordered-all before none parts (flat_map-none (λ (part : ℕ × List X). part.1) (ordered_by before parts) e)

-- what is of each item of what settings have is of all that each has
module _ {X : Type 0} (table : List Setting) (order : List ℕ) (parts : List (List ℕ × List X)) where
  abbrev placed : List ℕ × List X → ℕ × List X
  placed part = (place_of table part.0, part.1)

  abbrev before : ℕ × List X → ℕ
  before part = written_before order part.0

  pub written-none : as_written table order parts ≡ [] → All (λ part. part.1 ≡ []) parts
  written-none e =
      let none : ℕ × List X → Type 0 = λ part. part.1 ≡ [] in
      All-from_map none placed parts (order-none order (map placed parts) e)

  pub written-all : (P : X → Type 0) → All P (as_written table order parts) → All (λ part. All P part.1) parts
  unfolding in_order
  written-all P h =
      let all : ℕ × List X → Type 0 = λ part. All P part.1 in
      All-from_map all placed parts (ordered-all before all (map placed parts)
      (All-from_flat_map P (λ (part : ℕ × List X). part.1) (ordered_by before (map placed parts)) h))

-- what is of all posts of a switch or of a block is of those of each setting
module _ (P : WrittenName → Type 0) where
  abbrev no_posts : List ℕ × List WrittenName
  no_posts = ([], [])

  pub switch-posts : (s : Switch) → All P (switch_posts s) → All P s.activation_events × All P s.deactivation_events
  switch-posts s h =
      let each = written-all tables.switches s.order
      ((codes "events_when_activated", s.activation_events)
      ∷ (codes "events_when_deactivated", s.deactivation_events) ∷ []) P h in
      (each 0 no_posts (omega arith), each 1 no_posts (omega arith))

  block-posts : (table : List Setting) (order : List ℕ) (b : BlockEvents) → All P (block_posts table order b)
      → All P b.hit × All P b.complete
  block-posts table order b h =
      let each = written-all table order ((codes "events_when_hit", b.hit) ∷ (codes "events_when_complete", b.complete)
      ∷ []) P h in
      (each 0 no_posts (omega arith), each 1 no_posts (omega arith))

  pub counter-posts : (c : CounterEntry) → All P (counter_posts c) → All P c.block.hit × All P c.block.complete
  counter-posts c h = block-posts tables.counters c.order c.block h

  pub step-posts : (s : StepBlock) → All P (step_posts s) → All P s.block.hit × All P s.block.complete
  step-posts s h = block-posts tables.step_blocks s.order s.block h

-- what is put in order, and then seen
module _ {A X : Type 0} (see : A → List X) (order : List ℕ) where
  abbrev seen : ℕ × A → ℕ × List X
  seen part = (part.0, see part.1)

  seen-each : (parts : List (ℕ × A)) → flat_map (λ (part : ℕ × A). see part.1) parts
      ≡ flat_map (λ (part : ℕ × List X). part.1) (map seen parts)
  seen-each [] = refl
  seen-each (p ∷ ps) = ap (λ (xs : List X). see p.1 ++ xs) (seen-each ps)

  pub seen-in_order : (parts : List (ℕ × A))
      → flat_map (λ part. see part.1) (ordered_by (λ part. written_before order part.0) parts)
      ≡ in_order order (map (λ part. (part.0, see part.1)) parts)
  unfolding in_order
  seen-in_order parts =
      let before : ℕ × List X → ℕ = λ part. written_before order part.0 in
      seen-each (ordered_by (λ part. written_before order part.0) parts)
      ∙ ap (flat_map (λ (part : ℕ × List X). part.1)) (ordered-seen seen before parts)

-- if none is written, they stay as they are
module _ {A : Type 0} where
  abbrev first : ℕ × A → ℕ
  first part = written_before [] part.0

  put-first : (p : ℕ × A) (ps : List (ℕ × A)) → put_by first p ps ≡ p ∷ ps
  put-first p [] = refl
  put-first p (q ∷ qs) = refl

  ordered-unwritten : (ps : List (ℕ × A)) → ordered_by first ps ≡ ps
  ordered-unwritten [] = refl
  ordered-unwritten (p ∷ ps) = ap (put_by first p) (ordered-unwritten ps) ∙ put-first p ps

eqb-none : (order : List ℕ) → length order == 0 ≡ true → order ≡ []
eqb-none [] e = refl
eqb-none (x ∷ xs) e = absurd (omega (arith, eqb-true (length (x ∷ xs)) 0 e))

pub seen-unwritten : {A X : Type 0} (see : A → List X) (order : List ℕ) (parts : List (ℕ × A))
    → length order == 0 ≡ true → flat_map (λ part. see part.1) parts
    ≡ in_order order (map (λ part. (part.0, see part.1)) parts)
seen-unwritten see order parts none =
    ap (flat_map (λ part. see part.1)) (sym (ordered-unwritten parts))
    ∙ seen-in_order see [] parts
    ∙ ap (λ (places : List ℕ). in_order places (map (λ part. (part.0, see part.1)) parts)) (sym (eqb-none order none))

-- two of them
pub two-unwritten : {X : Type 0} (order : List ℕ) (p q : ℕ) (xs ys : List X) → length order == 0 ≡ true
    → in_order order ((p, xs) ∷ (q, ys) ∷ []) ≡ xs ++ ys
two-unwritten {X = X} order p q xs ys none =
    sym (seen-unwritten (λ (zs : List X). zs) order ((p, xs) ∷ (q, ys) ∷ []) none)
    ∙ ap (λ (zs : List X). xs ++ zs) (append-nil ys)

-- what has nothing is as if it were left out, between two others
module _ {X : Type 0} (order : List ℕ) (a k b : ℕ) (xs zs : List X) where
  abbrev at : ℕ × List X → ℕ
  at part = written_before order part.0

  abbrev all_of : List (ℕ × List X) → List X
  all_of parts = flat_map (λ (part : ℕ × List X). part.1) parts

  abbrev two : Bool → List (ℕ × List X)
  two ba = if ba then (b, zs) ∷ (a, xs) ∷ [] else (a, xs) ∷ (b, zs) ∷ []

  abbrev three : Bool → Bool → Bool → List (ℕ × List X)
  three true ka ba =
      if ba then (b, zs) ∷ (if ka then (k, []) ∷ (a, xs) ∷ [] else (a, xs) ∷ (k, []) ∷ [])
      else (a, xs) ∷ (b, zs) ∷ (k, []) ∷ []
  three false ka ba = if ka then (k, []) ∷ two ba else (a, xs) ∷ (k, []) ∷ (b, zs) ∷ []

  three-is : (bk : Bool) → put_by at (a, xs) (if bk then (b, zs) ∷ (k, []) ∷ [] else (k, []) ∷ (b, zs) ∷ [])
      ≡ three bk (nat_lt (written_before order k) (written_before order a))
      (nat_lt (written_before order b) (written_before order a))
  three-is true = refl
  three-is false = refl

  same-parts : (bk ka ba : Bool) → nat_lt (written_before order b) (written_before order k) ≡ bk
      → nat_lt (written_before order k) (written_before order a) ≡ ka
      → nat_lt (written_before order b) (written_before order a) ≡ ba
      → all_of (three bk ka ba) ≡ all_of (two ba)
  same-parts true true true h i j = refl
  same-parts true false true h i j = refl
  same-parts true ka false h i j = refl
  same-parts false true ba h i j = refl
  same-parts false false false h i j = refl
  same-parts false false true h i j =
      absurd (omega (
        arith,
        ltb-false (written_before order b) (written_before order k) h,
        ltb-false (written_before order k) (written_before order a) i,
        ltb-true (written_before order b) (written_before order a) j,
      ))

  pub middle-none : in_order order ((a, xs) ∷ (b, zs) ∷ []) ≡ in_order order ((a, xs) ∷ (k, []) ∷ (b, zs) ∷ [])
  unfolding in_order
  middle-none =
      let bk = nat_lt (written_before order b) (written_before order k) in
      let ka = nat_lt (written_before order k) (written_before order a) in
      let ba = nat_lt (written_before order b) (written_before order a) in
      sym (ap all_of (three-is bk) ∙ same-parts bk ka ba refl refl refl)
