-- Sixteen flags, and the bits of the number that keeps them.
use Rattle.std.proofs.Common.{rules, ◌≡◌, ◌≢◌, ℕ, zero, suc, ◌+◌, ◌^◌, ◌<◌, ◌≤◌, ◌==◌, nat_le, min, inl, inr, Bool}
use Rattle.std.proofs.Common.{true, false, None, Some, List, [], ◌∷◌, length, take, replicate, set, get_or, slice_get}
use Rattle.std.proofs.Common.{refl, sym, ap, ◌∙◌, subst, arith}
use Rattle.std.specs.{Int.{bit_at, trailing_ones, w16}, List.list_all}
use lib.Count.{count_trailing_zeros}
use Rattle.std.proofs.lemmas.Bool.{and_from, cases_eq, cases_lt, eq-eqb, le-leb, leb-true, leb-false}
use Rattle.std.proofs.lemmas.List.{ext_get_or, get_or-set_same, get_or-set_other, get_or-take, length-set, length-take}
use Rattle.std.proofs.lemmas.List.{Folds.list_all_at, FromFn.get_or-map-range_with_len}
use Rattle.std.proofs.lemmas.{Nat.Bits.{bit_at_ones, bit_at-trailing_ones}, Option.{slice_get-get_or, slice_get_past}}
use Rattle.device_objects.specs.Flags.{is_set, flags}

pub flags-length : (mask : ℕ) → length (flags mask) ≡ 16
unfolding flags
flags-length mask = refl

pub flags-at : (mask i : ℕ) (d : Bool) → i < 16 → get_or (flags mask) i d ≡ is_set mask i
unfolding flags
flags-at mask i d within = get_or-map-range_with_len (is_set mask) 0 16 i i d within (omega arith)

pub flags-get : (mask i : ℕ) → i < 16 → slice_get (flags mask) i ≡ Some (is_set mask i)
flags-get mask i within =
    let long = flags-length mask in
    slice_get-get_or (flags mask) i false (omega (arith, within, long)) ∙ ap Some (flags-at mask i false within)

pub flags-past : (mask i : ℕ) → 16 ≤ i → slice_get (flags mask) i ≡ None
flags-past mask i past = let long = flags-length mask in slice_get_past (flags mask) i (omega (arith, past, long))

pub flags-none : flags 0 ≡ replicate 16 false
unfolding flags
flags-none = refl

-- flags that are set as those of a list are the list
pub flags-are : (mask : ℕ) (all : List Bool) → length all ≡ 16 → ((k : ℕ) → k < 16 → is_set mask k ≡ get_or all k false)
    → flags mask ≡ all
flags-are mask all long same =
    let own = flags-length mask in
    ext_get_or false (flags mask) all (own ∙ sym long)
    (λ k within. let below : k < 16 = omega (arith, within, own) in flags-at mask k false below ∙ same k below)

-- one flag is written, and the others stay
pub flags-set : (old new i : ℕ) (on : Bool) → i < 16 → is_set new i ≡ on
    → ((k : ℕ) → k < 16 → k ≢ i → is_set new k ≡ is_set old k)
    → flags new ≡ set (flags old) i on
flags-set old new i on within at others =
    let own = flags-length old in
    flags-are new (set (flags old) i on) (length-set (flags old) i on ∙ own)
    (λ k below. elim (cases_eq k i) [
      | inl same ↦
          ap (is_set new) same ∙ at
          ∙ sym (ap (λ n. get_or (set (flags old) i on) n false) same
          ∙ get_or-set_same (flags old) i on false (omega (arith, within, own)))
      | inr other ↦
          others k below other
          ∙ sym (get_or-set_other (flags old) i k on false other ∙ flags-at old k false below)
    ])

-- ---- whether the first flags are all set

all_set : (all : List Bool) (n : ℕ) → ((k : ℕ) → k < n → k < length all → get_or all k false ≡ true)
    → list_all (λ d. d) (take n all) ≡ true
all_set all zero each = refl
all_set [] (suc n) each = refl
all_set (d ∷ all) (suc n) each =
    and_from d (list_all (λ x. x) (take n all)) (each 0 (omega arith) (omega arith))
    (all_set all n (λ k below within. each (suc k) (omega (arith, below)) (omega (arith, within))))

one_clear : (all : List Bool) (n k : ℕ) → k < n → k < length all → get_or all k false ≡ false
    → list_all (λ d. d) (take n all) ≡ false
one_clear all n k below within clear = search (rules, list_all_at, length-take, get_or-take)

full_ones : trailing_ones w16 65535 ≡ 16
unfolding count_trailing_zeros
full_ones = refl

-- they are, if no lower bit of the number is clear
pub are_set-is : (mask count : ℕ) → mask < 2 ^ 16
    → nat_le (min count 16) (trailing_ones w16 mask) ≡ list_all (λ d. d) (take count (flags mask))
are_set-is mask count fits =
    elim (cases_lt (mask + 1) (2 ^ 16)) [
      | inl below ↦
          let ones = bit_at-trailing_ones w16 mask below in
          by_test (nat_le (min count 16) (trailing_ones w16 mask)) ones.0 ones.1 ones.2 refl
      | inr top ↦
          let full : mask ≡ 65535 = omega (arith, fits, top) in
          subst (λ n. nat_le (min count 16) (trailing_ones w16 n) ≡ list_all (λ d. d) (take count (flags n))) (sym full)
          (ap (nat_le (min count 16)) full_ones ∙ le-leb (min count 16) 16 (omega arith)
          ∙ sym (all_set (flags 65535) count
          (λ k below within.
          let few : k < 16 = omega (arith, within, flags-length 65535) in
          flags-at 65535 k false few ∙ eq-eqb (bit_at 65535 k) 1 (bit_at_ones 16 k few))))
    ]
  where
    by_test : (test : Bool) → trailing_ones w16 mask < 16 → bit_at mask (trailing_ones w16 mask) ≡ 0
        → ((i : ℕ) → i < trailing_ones w16 mask → bit_at mask i ≡ 1)
        → nat_le (min count 16) (trailing_ones w16 mask) ≡ test
        → test ≡ list_all (λ d. d) (take count (flags mask))
    by_test true few clear ones is =
        let most : min count 16 ≤ trailing_ones w16 mask = leb-true (min count 16) (trailing_ones w16 mask) is in
        sym (all_set (flags mask) count
        (λ k below within.
        let small : k < 16 = omega (arith, within, flags-length mask) in
        flags-at mask k false small ∙ eq-eqb (bit_at mask k) 1 (ones k (omega (arith, below, small, most)))))
    by_test false few clear ones is =
        let more : trailing_ones w16 mask < min count 16 = leb-false (min count 16) (trailing_ones w16 mask) is in
        let long = flags-length mask in
        sym (one_clear (flags mask) count (trailing_ones w16 mask) (omega (arith, more)) (omega (arith, few, long))
        (flags-at mask (trailing_ones w16 mask) false few ∙ ap (λ b. b == 1) clear))
