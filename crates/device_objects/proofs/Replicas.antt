-- Lists of equal elements, the answers in each of some states, and tests of small numbers.
use Rattle.std.proofs.Common.{rules, ◌≡◌, ℕ, zero, suc, ◌+◌, nat_lt, ◌<◌, Some, List, ◌∷◌, ◌++◌, replicate, slice_get}
use Rattle.std.proofs.Common.{slice_set, true, false, refl, sym, ap, ◌∙◌, append_assoc, arith}
use Rattle.std.specs.List.{All, flat_map, range_with_len}
use Rattle.std.proofs.lemmas.{Bool.{ltb-true, lt-ltb, true≢false}, Option.slice_get-get_or}
use Rattle.std.proofs.lemmas.List.{append-nil, get_or-replicate, length-replicate, Elements.{All-nil, All-append}}

pub set-replicate : {X : Type 0} (n i : ℕ) (x : X) → slice_set (replicate n x) i x ≡ replicate n x
set-replicate (suc n) (suc i) x = ap (λ xs. x ∷ xs) (set-replicate n i x)
set-replicate _ _ x = refl

pub slice_get-replicate : {X : Type 0} (n i : ℕ) (x : X) → i < n → slice_get (replicate n x) i ≡ Some x
slice_get-replicate n i x l =
    slice_get-get_or (replicate n x) i x (omega (arith, l, length-replicate n x)) ∙ ap Some (get_or-replicate n i x x l)

pub All-flat_map_range : {X : Type 0} (P : X → Type 0) (f : ℕ → List X) (a n : ℕ) → ((k : ℕ) → k < a + n → All P (f k))
    → All P (flat_map f (range_with_len a n))
All-flat_map_range P f a zero each = All-nil P
All-flat_map_range P f a (suc n) each =
    All-append P (f a) (flat_map f (range_with_len (a + 1) n)) (each a (omega arith))
    (All-flat_map_range P f (a + 1) n (λ k l. each k (omega (arith, l))))

-- one state more
pub flat_map_range-suc : {X : Type 0} (f : ℕ → List X) (a n k : ℕ) → a + n ≡ k
    → flat_map f (range_with_len a (suc n)) ≡ flat_map f (range_with_len a n) ++ f k
flat_map_range-suc f a zero k is = append-nil (f a) ∙ ap f (let same : a ≡ k = omega (arith, is) in same)
flat_map_range-suc f a (suc n) k is = search (rules, append_assoc, flat_map_range-suc f (a + 1) n k (omega (arith, is)))

pub nat_lt-not_zero : (i : ℕ) → nat_lt i 0 ≡ true → ⊥
nat_lt-not_zero i is = let low : i < 0 = ltb-true i 0 is in omega (arith, low)

pub not_below_one : (i : ℕ) → nat_lt (suc i) 1 ≡ true → ⊥
not_below_one i is = let low : suc i < 1 = ltb-true (suc i) 1 is in omega (arith, low)

pub one_below : (n : ℕ) → nat_lt 1 (suc (suc n)) ≡ false → ⊥
one_below n is = true≢false (sym (lt-ltb 1 (suc (suc n)) (omega arith)) ∙ is)
