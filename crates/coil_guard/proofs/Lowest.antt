-- The lowest coil of which something is true.
use Rattle.std.proofs.Common.{rules, ◌≡◌, ℕ, ◌<◌, zero, suc, Bool, true, false, if◌then◌else◌, Option, Some, None}
use Rattle.std.proofs.Common.{IfSome, List, [], ◌∷◌, length, slice_index_or, refl, ap, ap₂, sym, subst, inl, inr, arith}
use Rattle.std.proofs.lemmas.{Bool.cases_eq, Option.none-some}
use Rattle.plan_tables.specs.declared.entries.CoilId.{CoilId}
use Rattle.coil_guard.specs.{declared.state.CoilState.CoilState, Lowest.{first_of_two, lowest, IsLowest}, Coils.coil_at}

pub lowest-same : (p q : CoilId → Bool) (n : ℕ) → ((coil : CoilId) → p coil ≡ q coil) → lowest p n ≡ lowest q n
lowest-same p q n same = search rules

-- ---- it is one of them

first-within : (n : ℕ) (a : Option CoilId) (b : Bool) (c : CoilId) → ((d : CoilId) → a ≡ Some d → d.0 < n)
    → first_of_two a (if b then Some (record { 0 = n }) else None) ≡ Some c → c.0 < suc n
first-within n a b c first is = search rules

pub lowest-within : (test : CoilId → Bool) (n : ℕ) (c : CoilId) → lowest test n ≡ Some c → c.0 < n
lowest-within test zero c is = absurd (none-some c is)
lowest-within test (suc n) c is = first-within n (lowest test n) (test (record { 0 = n })) c
    (λ d. lowest-within test n d) is

pub answer-within : (test : CoilId → Bool) (n : ℕ) (o : Option CoilId) → o ≡ lowest test n → IfSome o (λ c. c.0 < n)
answer-within test n o is = search (rules, lowest-within)

-- ---- a loop over the coils finds it

-- the first one of which the test is true, if it is true of none before
found : (test : CoilId → Bool) (n count : ℕ) → n < count → lowest test n ≡ None → test (record { 0 = n }) ≡ true
    → Some (record { 0 = n }) ≡ lowest test count
found test n zero within none here = absurd (omega (arith, within))
found test n (suc m) within none here =
    elim (cases_eq n m) [
      | inl last ↦ subst (λ (k : ℕ). Some (record { 0 = n })
          ≡ first_of_two (lowest test k) (if test (record { 0 = k }) then Some (record { 0 = k }) else None)) last
          (sym (ap₂ (λ a b. first_of_two a (if b then Some (record { 0 = n }) else None)) none here))
      | inr earlier ↦ ap (λ a. first_of_two a (if test (record { 0 = m }) then Some (record { 0 = m }) else None))
          (found test n m (omega (arith, within, earlier)) none here)
    ]

-- inside a list it is no matter what stands outside
get-inside : (xs : List CoilState) (k : ℕ) (a b : CoilState) → k < length xs
    → slice_index_or xs k a ≡ slice_index_or xs k b
get-inside [] k a b within = absurd (omega (arith, within))
get-inside (x ∷ xs) zero a b within = refl
get-inside (x ∷ xs) (suc k) a b within = get-inside xs k a b (omega (arith, within))

-- the same by the facts of the loop: the items that it goes over are the states, and b is the test's answer
pub found-at : (test : CoilState → Bool) (items fields s : List CoilState) (n : ℕ) (d : CoilState) (b : Bool)
    → items ≡ fields → fields ≡ s → n < length items
    → lowest (λ coil. test (coil_at s coil)) n ≡ None → b ≡ test (slice_index_or items n d) → b ≡ true
    → Some (record { 0 = n }) ≡ lowest (λ coil. test (coil_at s coil)) (length s)
found-at test items fields s n d b items_are fields_are within none is holds =
    search (rules, slice_index_or, get-inside, found)

-- ---- it is the lowest

next-lowest : (test : CoilId → Bool) (n : ℕ) (a : Option CoilId) (b : Bool) → IsLowest test n a
    → test (record { 0 = n }) ≡ b → IsLowest test (suc n) (first_of_two a (if b then Some (record { 0 = n }) else None))
next-lowest test n a b is here = search rules

pub lowest-is : (test : CoilId → Bool) (n : ℕ) → IsLowest test n (lowest test n)
lowest-is test zero = λ coil within. absurd (omega (arith, within))
lowest-is test (suc n) = next-lowest test n (lowest test n) (test (record { 0 = n })) (lowest-is test n) refl

-- The lowest by one test is the lowest by another that says the same.
pub lowest-by : (p q : CoilId → Bool) (n m : ℕ) → ((coil : CoilId) → p coil ≡ q coil) → n ≡ m
    → IsLowest q m (lowest p n)
lowest-by p q n m same count = search (rules, lowest-same, lowest-is)

-- ---- it is true of none

pub none-below : (test : CoilId → Bool) (n : ℕ) → lowest test n ≡ None → (coil : CoilId) → coil.0 < n
    → test coil ≡ false
none-below test n is = subst (IsLowest test n) is (lowest-is test n)

pub none-from : (test : CoilId → Bool) (n : ℕ) → ((coil : CoilId) → coil.0 < n → test coil ≡ false)
    → lowest test n ≡ None
none-from test zero none = refl
none-from test (suc n) none =
    ap₂ (λ a b. first_of_two a (if b then Some (record { 0 = n }) else None))
    (none-from test n (λ coil within. none coil (omega arith))) (none (record { 0 = n }) (omega arith))
