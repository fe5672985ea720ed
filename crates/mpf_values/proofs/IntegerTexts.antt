-- Integers are read as they are written.
use Rattle.std.proofs.Common.{rules, ◌≡◌, ℕ, ◌≤◌, Bool, true, false, cond, eqb, ltb, List, [], ◌∷◌, Some, None, ℤ, pos}
use Rattle.std.proofs.Common.{neg_ℤ, refl, sym, ap, ◌∙◌, inl, inr, arith}
use Rattle.std.proofs.lemmas.{Bool.{eqb-true, ne_eqb, ltb-false, le-ltb}, Option.same_Some}
use Rattle.yaml_bytes.specs.Numbers.{value_of_digits, number_at, AreDigits}
use Rattle.mpf_values.specs.{Integers.{with_sign, signed, IsInteger}, Reading.{◌>>=◌, magnitude_at, integer_at}}
use Rattle.mpf_values.proofs.{Steps.{bind_some, guard_false}, Computing.Computes}
use Rattle.yaml_bytes.proofs.{WrittenNumbers.{number_sound, number_complete}, Steps.chosen}

-- what digits are that are read
record Magnitude (digits : List ℕ) (n : ℕ) : Type 0 where
  are : AreDigits digits
  value : n ≡ value_of_digits digits
  within : value_of_digits digits ≤ 1000000000

magnitude_sound : (digits : List ℕ) (n : ℕ) → magnitude_at digits ≡ Some n → Magnitude digits n
unfolding magnitude_at
magnitude_sound digits n e =
    let a = bind_some (number_at digits) (λ m. cond (ltb 1000000000 m) None (Some m)) n e in
    let d = number_sound digits a.0 a.1 in
    let b = guard_false (ltb 1000000000 a.0) (Some a.0) n a.2 in
    let below = ltb-false 1000000000 a.0 b.0 in
    record { are = d.digits; value = sym (same_Some a.0 n b.1) ∙ sym d.value; within = omega (arith, d.value) }

magnitude_complete : (digits : List ℕ) → AreDigits digits → value_of_digits digits ≤ 1000000000
    → magnitude_at digits ≡ Some (value_of_digits digits)
unfolding magnitude_at
magnitude_complete digits h within =
    rw (
      number_complete digits (value_of_digits digits) (record { digits = h; value = refl; fits = omega arith }),
      le-ltb 1000000000 (value_of_digits digits) within,
    ) refl

plain_integer : (text : List ℕ) (n : ℤ) → (magnitude_at text >>= λ m. Some (pos m)) ≡ Some n → IsInteger text n
plain_integer text n e =
    let a = bind_some (magnitude_at text) (λ m. Some (pos m)) n e in
    let m = magnitude_sound text a.0 a.1 in
    record {
      negative = false;
      digits = text;
      parts = refl;
      are_digits = m.are;
      value = sym (same_Some (pos a.0) n a.2)
          ∙ ap pos m.value;
      within = m.within;
    }

integer_sound : (text : List ℕ) (n : ℤ) → integer_at text ≡ Some n → IsInteger text n
unfolding integer_at
integer_sound [] n e = plain_integer [] n e
integer_sound (b ∷ bs) n e =
    elim (chosen (eqb b 45) (magnitude_at bs >>= λ m. Some (neg_ℤ (pos m)))
    (magnitude_at (b ∷ bs) >>= λ m. Some (pos m)) (Some n) e) [
      | inl a ↦
          let c = bind_some (magnitude_at bs) (λ m. Some (neg_ℤ (pos m))) n a.1 in
          let m = magnitude_sound bs c.0 c.1 in
          record {
            negative = true;
            digits = bs;
            parts = ap (λ x. x ∷ bs) (eqb-true b 45 a.0);
            are_digits = m.are;
            value = sym (same_Some (neg_ℤ (pos c.0)) n c.2) ∙ ap (λ x. neg_ℤ (pos x)) m.value;
            within = m.within;
          }
      | inr c ↦ plain_integer (b ∷ bs) n c.1
    ]

plain_complete : (digits : List ℕ) → AreDigits digits → value_of_digits digits ≤ 1000000000
    → integer_at digits ≡ Some (pos (value_of_digits digits))
unfolding integer_at
plain_complete x1 h within = search (rules, within, ne_eqb, magnitude_complete)

minus_complete : (digits : List ℕ) → AreDigits digits → value_of_digits digits ≤ 1000000000
    → integer_at (45 ∷ digits) ≡ Some (neg_ℤ (pos (value_of_digits digits)))
unfolding integer_at
minus_complete digits h within = rw (magnitude_complete digits h within) refl

signed_complete : (negative : Bool) (digits : List ℕ) → AreDigits digits → value_of_digits digits ≤ 1000000000
    → integer_at (with_sign negative digits) ≡ Some (signed negative (value_of_digits digits))
signed_complete x1 digits h within = search (rules, within, minus_complete, plain_complete)

integer_complete : (text : List ℕ) (n : ℤ) → IsInteger text n → integer_at text ≡ Some n
integer_complete text n h = ap integer_at h.parts ∙ signed_complete h.negative h.digits h.are_digits h.within
    ∙ ap (λ (m : ℤ). Some m) (sym h.value)

pub integer_computes : (text : List ℕ) → Computes (integer_at text) (IsInteger text)
integer_computes text = record { sound = integer_sound text; complete = integer_complete text }
