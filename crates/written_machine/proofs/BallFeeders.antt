-- How many of the rows that pass one test pass another: when one row changes, and if there is one.
use Rattle.std.proofs.Common.{rules, ◌≡◌, ℕ, zero, suc, ◌+◌, ◌<◌, ◌≤◌, ◌==◌, inl, inr, Bool, true, false, cond, arith}
use Rattle.std.proofs.Common.{if◌then◌else◌, Option, None, Some, List, [], ◌∷◌, ◌&&◌, map, refl, sym, ap, ap₂, subst}
use Rattle.std.specs.{Prelude.{filter, find}, List.{All, count_by, range_with_len}}
use Rattle.std.proofs.lemmas.{Bool.{cases_eq, eq-eqb, ne_eqb}, Option.{none-some, same_Some}}
use Rattle.std.proofs.lemmas.List.{Elements.{All-head, All-tail}, Sums.sum_by-cons}
use Rattle.plan_tables.specs.declared.devices.RowId.{RowId}
use Rattle.ball_devices.specs.Bookings.{one}

-- ---- counts among those that pass a test

one-same : (b x y : Bool) → (b ≡ true → x ≡ y) → one (b && x) ≡ one (b && y)
one-same b x y same = search rules

module _ {X : Type 0} where
  first-count : (p : X → Bool) (x : X) (xs : List X) (b : Bool)
      → count_by p (if b then x ∷ xs else xs) ≡ one (b && p x) + count_by p xs
  first-count p x xs true = sum_by-cons (λ y. cond (p y) 1 0) x xs
  first-count p x xs false = omega arith

  pub filter-count : (p f : X → Bool) (x : X) (xs : List X)
      → count_by p (filter f (x ∷ xs)) ≡ one (f x && p x) + count_by p (filter f xs)
  filter-count p f x xs = first-count p x (filter f xs) (f x)

  -- two tests that agree on those that pass
  pub filter-same : (p q f : X → Bool) (xs : List X) → ((x : X) → f x ≡ true → p x ≡ q x)
      → count_by p (filter f xs) ≡ count_by q (filter f xs)
  filter-same p q f [] same = refl
  filter-same p q f (x ∷ xs) same = search (rules, filter-count, one-same, filter-same p q f xs same)

-- ---- one row changes

abbrev row : ℕ → RowId
row n = record { 0 = n }

module _ (f p q : RowId → Bool) (r : ℕ) (others : (x : RowId) → (x.0 ≡ r → ⊥) → p x ≡ q x) where
  abbrev count_from : (RowId → Bool) → ℕ → ℕ → ℕ
  count_from test k n = count_by test (filter f (map row (range_with_len k n)))

  one-other : (k : ℕ) → (k ≡ r → ⊥) → one (f (row k) && p (row k)) ≡ one (f (row k) && q (row k))
  one-other k other = ap (λ (b : Bool). one (f (row k) && b)) (others (row k) other)

  absent : (n k : ℕ) → r < k → count_from p k n ≡ count_from q k n
  absent zero k past = refl
  absent (suc n) k past = search (rules, filter-count, one-other, absent n (k + 1) (omega arith))

  one-at : (test : RowId → Bool) (k : ℕ) → k ≡ r → one (f (row k) && test (row k)) ≡ one (f (row r) && test (row r))
  one-at test k is = ap (λ (m : ℕ). one (f (row m) && test (row m))) is

  one_changes : (n k : ℕ) → k ≤ r → r < k + n
      → count_from q k n + one (f (row r) && p (row r)) ≡ count_from p k n + one (f (row r) && q (row r))
  one_changes zero k after within = absurd (omega arith)
  one_changes (suc n) k after within =
      let here = filter-count p f (row k) (map row (range_with_len (k + 1) n)) in
      let next = filter-count q f (row k) (map row (range_with_len (k + 1) n)) in
      elim (cases_eq k r) [
        | inl same ↦ omega (arith, here, next, one-at p k same, one-at q k same, absent n (k + 1) (omega arith))
        | inr other ↦ omega (arith, here, next, one-other k other, one_changes n (k + 1) (omega arith) (omega arith))
      ]

  -- of the rows from 0 on
  pub row-changes : (n : ℕ) → r < n
      → count_by q (filter f (map row (range_with_len 0 n))) + one (f (row r) && p (row r))
      ≡ count_by p (filter f (map row (range_with_len 0 n))) + one (f (row r) && q (row r))
  row-changes n within = one_changes n 0 (omega arith) (omega arith)

-- a row that passes both is counted
pub row-counts : (f p : RowId → Bool) (r n : ℕ) → r < n → f (record { 0 = r }) ≡ true → p (record { 0 = r }) ≡ true
    → 0 < count_by p (filter f (map row (range_with_len 0 n)))
row-counts f p r n within feeds passes =
    let q : RowId → Bool = λ x. cond (x.0 == r) false (p x) in
    let changes = row-changes f p q r (λ x other. sym (ap (λ (b : Bool). cond b false (p x)) (ne_eqb x.0 r other))) n
    within in
    let one_is : one (f (row r) && p (row r)) ≡ 1 = ap₂ (λ (x y : Bool). one (x && y)) feeds passes in
    let none : one (f (row r) && q (row r)) ≡ 0 =
    ap₂ (λ (x y : Bool). one (x && y)) feeds (ap (λ (b : Bool). cond b false (p (row r))) (eq-eqb r r refl)) in
    omega (arith, changes, one_is, none)

-- ---- the first that passes

module _ {X : Type 0} (p : X → Bool) (P : X → Type 0) where
  -- what is found passes; if nothing is found, none passes
  abbrev pub Found : List X → Option X → Type 0
  Found xs None = count_by p xs ≡ 0
  Found xs (Some x) = (p x ≡ true) × P x

  found-at : (x : X) (xs : List X) (b : Bool) → p x ≡ b → P x → ((o : Option X) → find p xs ≡ o → Found xs o)
      → (o : Option X) → (if b then Some x else find p xs) ≡ o → Found (x ∷ xs) o
  found-at x xs true is here rest None o = absurd (none-some x (sym o))
  found-at x xs true is here rest (Some y) o = subst (λ (z : X). (p z ≡ true) × P z) (same_Some x y o) (is, here)
  found-at x xs false is here rest None o =
      let none : one (p x) ≡ 0 = ap one is in
      let after : count_by p xs ≡ 0 = rest None o in
      omega (arith, sum_by-cons (λ y. cond (p y) 1 0) x xs)
  found-at x xs false is here rest (Some y) o = rest (Some y) o

  pub find-found : (xs : List X) → All P xs → (o : Option X) → find p xs ≡ o → Found xs o
  find-found [] all None o = refl
  find-found [] all (Some x) o = absurd (none-some x o)
  find-found (x ∷ xs) all o is =
      found-at x xs (p x) refl (All-head P x xs all) (find-found xs (All-tail P x xs all)) o is
