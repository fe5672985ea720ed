-- First uses: each name is among them once. So what stands under a name is one slot of a table.
use Rattle.std.proofs.Common.{rules, ◌≡◌, ◌≢◌, ℕ, zero, suc, ◌+◌, ◌<◌, Bool, true, false, cond, if◌then◌else◌, not}
use Rattle.std.proofs.Common.{List, [], ◌∷◌, length, map, filter, get_or, set, refl, sym, ◌∙◌, ap, ap₂, true≢false}
use Rattle.std.proofs.{Common.arith, lemmas.{Slice.Eq.bytes_eq-Decides, Bool.Decides.same_from_decides}}
use Rattle.std.specs.{Str.bytes_eq, List.{All, AllPairs}}
use Rattle.std.proofs.lemmas.List.Elements.{All-cons, All-head, All-tail, All-weaker, All-filter, filter_passes}
use Rattle.mpf_plan.specs.Uses.{first_by, number_among}

pub All-first_by : {X : Type 0} (P : X → Type 0) (name : X → List ℕ) (xs : List X) → All P xs
    → All P (first_by name xs)
All-first_by P name [] all = all
All-first_by P name (x ∷ xs) all =
    search (rules, All-cons, All-head, All-filter, All-tail, All-first_by P name xs (All-tail P x xs all))

-- ---- no two first uses have one name

abbrev pub AreApart : List (List ℕ) → Type 0
AreApart [] = Unit {0}
AreApart (x ∷ xs) = All (λ y. x ≢ y) xs × AreApart xs

AreApart-filter : (p : List ℕ → Bool) (xs : List (List ℕ)) → AreApart xs → AreApart (filter p xs)
AreApart-filter p [] apart = tt
AreApart-filter p (x ∷ xs) apart = by (p x) (AreApart-filter p xs apart.1)
  where
    by : (b : Bool) → AreApart (filter p xs) → AreApart (cond b (x ∷ filter p xs) (filter p xs))
    by true rest = (All-filter p (λ y. x ≢ y) xs apart.0, rest)
    by false rest = rest

differ : (x y : List ℕ) → not (bytes_eq x y) ≡ true → x ≢ y
differ x y passes same = true≢false (sym passes ∙ ap not ((bytes_eq-Decides x y).1 same))

pub AreApart-first_uses : (xs : List (List ℕ)) → AreApart (first_by (λ n. n) xs)
AreApart-first_uses [] = tt
AreApart-first_uses (x ∷ xs) =
    search (rules, All-weaker, differ, filter_passes, AreApart-filter, AreApart-first_uses xs)

pub all_apart : (xs : List (List ℕ)) → AreApart xs → AllPairs (λ x y. x ≢ y) xs
all_apart [] apart i j d before within = absurd (omega arith)
all_apart (x ∷ xs) apart zero zero d before within = absurd (omega arith)
all_apart (x ∷ xs) apart (suc i) zero d before within = absurd (omega arith)
all_apart (x ∷ xs) apart zero (suc j) d before within = apart.0 j d (omega arith)
all_apart (x ∷ xs) apart (suc i) (suc j) d before within = all_apart xs apart.1 i j d (omega arith) (omega arith)

-- ---- tests of names

pub bytes_eq-sym : (x y : List ℕ) → bytes_eq x y ≡ bytes_eq y x
bytes_eq-sym x y =
    let there = bytes_eq-Decides y x in
    same_from_decides (bytes_eq x y) (bytes_eq y x) (bytes_eq-Decides x y)
    (λ e. sym (there.0 e), λ e. there.1 (sym e))

not_same : (x y : List ℕ) → x ≢ y → bytes_eq y x ≡ false
not_same x y apart = by (bytes_eq y x) refl
  where
    by : (b : Bool) → bytes_eq y x ≡ b → b ≡ false
    by true is = absurd (apart (sym ((bytes_eq-Decides y x).0 is)))
    by false is = refl

one_suc : (k : ℕ) → 1 + k ≡ suc k
one_suc k = omega arith

-- ---- one slot

module _ {X : Type 0} (name : X → List ℕ) (d : X) (f : X → X) where
  -- what has this name is changed
  abbrev pub where_named : List ℕ → X → X
  where_named m x = if bytes_eq (name x) m then f x else x

  others_stay : (m : List ℕ) (xs : List X) → All (λ y. m ≢ y) (map name xs) → map (where_named m) xs ≡ xs
  others_stay m [] others = refl
  others_stay m (x ∷ xs) others =
      ap₂ (λ y ys. y ∷ ys)
      (ap (λ b. if b then f x else x) (not_same m (name x) (All-head (λ y. m ≢ y) (name x) (map name xs) others)))
      (others_stay m xs (All-tail (λ y. m ≢ y) (name x) (map name xs) others))

  -- the slot at the number of a name is the one that has it
  pub slot_named : (xs : List X) (m : List ℕ) → AreApart (map name xs) → number_among (map name xs) m < length xs
      → set xs (number_among (map name xs) m) (f (get_or xs (number_among (map name xs) m) d)) ≡ map (where_named m) xs
  slot_named [] m apart inside = absurd (omega arith)
  slot_named (x ∷ xs) m apart inside = by (bytes_eq m (name x)) refl inside (slot_named xs m apart.1)
    where
      rest : ℕ
      rest = number_among (map name xs) m

      by : (b : Bool) → bytes_eq m (name x) ≡ b → cond (not b) (1 + rest) 0 < suc (length xs)
          → (rest < length xs → set xs rest (f (get_or xs rest d)) ≡ map (where_named m) xs)
          → set (x ∷ xs) (cond (not b) (1 + rest) 0) (f (get_or (x ∷ xs) (cond (not b) (1 + rest) 0) d))
          ≡ where_named m x ∷ map (where_named m) xs
      by true is within more =
          let same : m ≡ name x = (bytes_eq-Decides m (name x)).0 is in
          ap₂ (λ y ys. y ∷ ys)
          (ap (λ b. if b then f x else x) (sym (bytes_eq-sym (name x) m ∙ is)))
          (sym (ap (λ n. map (where_named n) xs) same ∙ others_stay (name x) xs apart.0))
      by false is within more =
          ap (λ n. set (x ∷ xs) n (f (get_or (x ∷ xs) n d))) (one_suc rest)
          ∙ ap₂ (λ y ys. y ∷ ys)
          (ap (λ b. if b then f x else x) (sym (bytes_eq-sym (name x) m ∙ is)))
          (more (omega (arith, within)))
