-- Numbers are read as they are written.
use Rattle.std.proofs.Common.{rules, ◌≡◌, ℕ, zero, suc, ◌+◌, ◌-◌, ◌*◌, ◌^◌, ◌<◌, ◌≤◌, false, cond, eqb, ◌==◌, List, []}
use Rattle.std.proofs.Common.{◌∷◌, ◌++◌, length, Option, Some, None, refl, sym, ap, subst, ◌∙◌, inl, inr, arith}
use Rattle.std.{proofs.{Common.append_assoc, lemmas.{Bool.eqb-true, Option.same_Some}}, specs.Char.is_ascii_digit}
use Rattle.yaml_bytes.specs.{Numbers.{value_of_digits, number_at, AreDigits}, Plain.Are}
use Rattle.yaml_bytes.proofs.{WrittenNumbers.{number_sound, number_complete}, Steps.chosen}
use Rattle.mpf_values.specs.{declared.decimals.Decimal.Decimal, Numbers.{decimal_text, IsDecimal}, Reading.decimal_at}
use Rattle.mpf_values.specs.Reading.{◌>>=◌, front, behind, within_64_bits, worth_of, fraction_at, decimal_from}
use Rattle.mpf_values.proofs.Steps.{bind_some, guard_true, within_64_bits-some, within_64_bits-is}
use Rattle.mpf_values.proofs.Fronts.{begins, parts, front_is, behind_is}

-- ---- decimals

worth_sound : (n worth : ℕ) → worth_of n ≡ Some worth → (0 < n) × (n ≤ 3) × (worth ≡ 10 ^ (3 - n))
worth_sound n worth e =
    elim (chosen (eqb n 1) (Some 100) (cond (eqb n 2) (Some 10) (cond (eqb n 3) (Some 1) None)) (Some worth) e) [
      | inl a ↦ let is = eqb-true n 1 a.0 in (omega arith, omega arith, rw is (sym (same_Some 100 worth a.1)))
      | inr b ↦ elim (chosen (eqb n 2) (Some 10) (cond (eqb n 3) (Some 1) None) (Some worth) b.1) [
        | inl a ↦ let is = eqb-true n 2 a.0 in (omega arith, omega arith, rw is (sym (same_Some 10 worth a.1)))
        | inr c ↦
            let a = guard_true (eqb n 3) (Some 1) worth c.1 in
            let is = eqb-true n 3 a.0 in
            (omega arith, omega arith, rw is (sym (same_Some 1 worth a.1)))
      ]
    ]

worth_complete : (n : ℕ) → 0 < n → n ≤ 3 → worth_of n ≡ Some (10 ^ (3 - n))
worth_complete x1 some few = search rules

-- what decimals are that are read
record Fraction (decimals : List ℕ) (f : ℕ) : Type 0 where
  digits : AreDigits decimals
  few : length decimals ≤ 3
  value : f ≡ value_of_digits decimals * 10 ^ (3 - length decimals)

fraction_sound : (decimals : List ℕ) (f : ℕ) → fraction_at decimals ≡ Some f → Fraction decimals f
unfolding fraction_at
fraction_sound decimals f e =
    let a = bind_some (worth_of (length decimals)) (λ worth. number_at decimals >>= λ n. within_64_bits (n * worth)) f e
    in
    let w = worth_sound (length decimals) a.0 a.1 in
    let b = bind_some (number_at decimals) (λ n. within_64_bits (n * a.0)) f a.2 in
    let d = number_sound decimals b.0 b.1 in
    record {
      digits = d.digits;
      few = w.1;
      value = sym (within_64_bits-some (b.0 * a.0) f b.2).0
          ∙ rw (← d.value, w.2) refl;
    }

fraction_complete : (decimals : List ℕ) → AreDigits decimals → length decimals ≤ 3 → value_of_digits decimals < 2 ^ 64
    → value_of_digits decimals * 10 ^ (3 - length decimals) < 2 ^ 64
    → fraction_at decimals ≡ Some (value_of_digits decimals * 10 ^ (3 - length decimals))
unfolding fraction_at
fraction_complete decimals h few fits product =
    rw (
      worth_complete (length decimals) h.some few,
      number_complete decimals (value_of_digits decimals) (record { digits = h; value = refl; fits = fits }),
      within_64_bits-is (value_of_digits decimals * 10 ^ (3 - length decimals)) product,
    ) refl

-- a number at the front of a text
pub record Front (text : List ℕ) (d : Decimal) (rest : List ℕ) : Type 0 where
  pub number : List ℕ
  pub parts : text ≡ number ++ rest
  pub is : IsDecimal number d.thousandths d.places

text_some : (whole decimals : List ℕ) → 0 < length decimals → decimal_text whole decimals ≡ whole ++ 46 ∷ decimals
text_some whole x2 h = search rules

plain_front : (digits rest : List ℕ) (n : ℕ) → AreDigits digits → n ≡ value_of_digits digits * 1000
    → Front (digits ++ rest) (record { thousandths = n; places = 0 }) rest
plain_front digits rest n h value =
    record {
      number = digits;
      parts = refl;
      is = record {
        whole = digits;
        decimals = [];
        parts = refl;
        is_whole = h;
        are_decimals = tt;
        count = refl;
        few = omega arith;
        value = omega arith;
      };
    }

point_front : (digits : List ℕ) (b : ℕ) (bs : List ℕ) (n f m : ℕ) → AreDigits digits → n ≡ value_of_digits digits * 1000
    → b ≡ 46 → Fraction (front is_ascii_digit bs) f → n + f ≡ m
    → Front (digits ++ b ∷ bs) (record { thousandths = m; places = length (front is_ascii_digit bs) })
    (behind is_ascii_digit bs)
point_front digits b bs n f m h value point k sum =
    let decimals = front is_ascii_digit bs in
    record {
      number = digits ++ 46 ∷ decimals;
      parts = rw point (ap (λ (xs : List ℕ). digits ++ 46 ∷ xs) (sym (parts is_ascii_digit bs))
          ∙ sym (append_assoc digits (46 ∷ decimals) (behind is_ascii_digit bs)));
      is = record {
        whole = digits;
        decimals = decimals;
        parts = sym (text_some digits decimals k.digits.some);
        is_whole = h;
        are_decimals = k.digits.each;
        count = refl;
        few = k.few;
        value = sym sum ∙ ap (λ x. x + f) value ∙ ap (λ x. value_of_digits digits * 1000 + x) k.value;
      };
    }

abbrev at_front : List ℕ → Decimal × List ℕ → Type 0
at_front text r = Front text r.0 r.1

from_sound : (digits rest : List ℕ) (n : ℕ) (r : Decimal × List ℕ) → AreDigits digits
    → n ≡ value_of_digits digits * 1000 → decimal_from n rest ≡ Some r → at_front (digits ++ rest) r
from_sound digits [] n r h value e = subst (at_front (digits ++ []))
    (same_Some (record { thousandths = n; places = 0 }, []) r e) (plain_front digits [] n h value)
from_sound digits (b ∷ bs) n r h value e =
    let decimals = front is_ascii_digit bs in
    let rest = behind is_ascii_digit bs in
    let last : ℕ → Option (Decimal × List ℕ) =
    λ (m : ℕ). Some (record { thousandths = m; places = length decimals }, rest) in
    elim (chosen (eqb b 46) (fraction_at decimals >>= λ f. within_64_bits (n + f) >>= last)
    (Some (record { thousandths = n; places = 0 }, b ∷ bs)) (Some r) e) [
      | inl a ↦
          let f = bind_some (fraction_at decimals) (λ f. within_64_bits (n + f) >>= last) r a.1 in
          let k = fraction_sound decimals f.0 f.1 in
          let m = bind_some (within_64_bits (n + f.0)) last r f.2 in
          let point : b ≡ 46 = eqb-true b 46 a.0 in
          let found : at_front (digits ++ b ∷ bs) (record { thousandths = m.0; places = length decimals }, rest) =
          point_front digits b bs n f.0 m.0 h value point k (within_64_bits-some (n + f.0) m.0 m.1).0 in
          subst (at_front (digits ++ b ∷ bs))
          (same_Some (record { thousandths = m.0; places = length decimals }, rest) r m.2) found
      | inr c ↦ subst (at_front (digits ++ b ∷ bs)) (same_Some (record { thousandths = n; places = 0 }, b ∷ bs) r c.1)
          (plain_front digits (b ∷ bs) n h value)
    ]

pub decimal_sound : (text : List ℕ) (r : Decimal × List ℕ) → decimal_at text ≡ Some r → Front text r.0 r.1
unfolding decimal_at
decimal_sound text r e =
    let digits = front is_ascii_digit text in
    let rest = behind is_ascii_digit text in
    let a = bind_some (number_at digits) (λ n. within_64_bits (n * 1000) >>= λ whole. decimal_from whole rest) r e in
    let d = number_sound digits a.0 a.1 in
    let b = bind_some (within_64_bits (a.0 * 1000)) (λ whole. decimal_from whole rest) r a.2 in
    let value : b.0 ≡ value_of_digits digits * 1000 = sym (within_64_bits-some (a.0 * 1000) b.0 b.1).0
    ∙ rw (← d.value) refl in
    subst (λ whole. Front whole r.0 r.1) (parts is_ascii_digit text) (from_sound digits rest b.0 r d.digits value b.2)

-- a number ends before what follows: no digit comes, and no point
pub record Ends (rest : List ℕ) : Type 0 where
  pub digit : begins is_ascii_digit rest ≡ false
  pub point : begins (λ b. b == 46) rest ≡ false

from_plain : (n : ℕ) (rest : List ℕ) → Ends rest
    → decimal_from n rest ≡ Some (record { thousandths = n; places = 0 }, rest)
from_plain n [] h = refl
from_plain n (b ∷ bs) h = rw h.point refl

plain_complete : (whole rest : List ℕ) (n : ℕ) → AreDigits whole → n ≡ value_of_digits whole * 1000 → n < 2 ^ 64
    → Ends rest
    → decimal_at (whole ++ rest) ≡ Some (record { thousandths = n; places = 0 }, rest)
unfolding decimal_at
plain_complete whole rest n h value fits ends =
    let small : value_of_digits whole < 2 ^ 64 = omega arith in
    let product : value_of_digits whole * 1000 < 2 ^ 64 = omega arith in
    rw (
      front_is is_ascii_digit whole rest h.each ends.digit,
      behind_is is_ascii_digit whole rest h.each ends.digit,
      number_complete whole (value_of_digits whole) (record { digits = h; value = refl; fits = small }),
      within_64_bits-is (value_of_digits whole * 1000) product,
      ← value,
    )
    (from_plain n rest ends)

not_less : (n k : ℕ) → k ≤ 2 → n ≤ n * 10 ^ k
not_less n zero h = omega arith
not_less n (suc zero) h = omega arith
not_less n (suc (suc zero)) h = omega arith
not_less n (suc (suc (suc k))) h = absurd (omega arith)

from_point : (whole n : ℕ) (decimals rest : List ℕ) → AreDigits decimals → length decimals ≤ 3
    → n ≡ whole + value_of_digits decimals * 10 ^ (3 - length decimals) → n < 2 ^ 64 → Ends rest
    → decimal_from whole (46 ∷ (decimals ++ rest)) ≡ Some (record { thousandths = n; places = length decimals }, rest)
from_point whole n decimals rest h few value fits ends =
    let some = h.some in
    let le = not_less (value_of_digits decimals) (3 - length decimals) (omega arith) in
    let product : value_of_digits decimals * 10 ^ (3 - length decimals) < 2 ^ 64 = omega arith in
    let small : value_of_digits decimals < 2 ^ 64 = omega arith in
    let sum : whole + value_of_digits decimals * 10 ^ (3 - length decimals) < 2 ^ 64 = omega arith in
    rw (
      front_is is_ascii_digit decimals rest h.each ends.digit,
      behind_is is_ascii_digit decimals rest h.each ends.digit,
      fraction_complete decimals h few small product,
    )
    (rw (within_64_bits-is (whole + value_of_digits decimals * 10 ^ (3 - length decimals)) sum, ← value) refl)

point_complete : (whole decimals rest : List ℕ) (n : ℕ) → AreDigits whole → AreDigits decimals → length decimals ≤ 3
    → n ≡ value_of_digits whole * 1000 + value_of_digits decimals * 10 ^ (3 - length decimals) → n < 2 ^ 64 → Ends rest
    → decimal_at (whole ++ 46 ∷ (decimals ++ rest)) ≡ Some (record { thousandths = n; places = length decimals }, rest)
unfolding decimal_at
point_complete whole decimals rest n h d few value fits ends =
    let behind_whole : List ℕ = 46 ∷ (decimals ++ rest) in
    let small : value_of_digits whole < 2 ^ 64 = omega arith in
    let product : value_of_digits whole * 1000 < 2 ^ 64 = omega arith in
    rw (
      front_is is_ascii_digit whole behind_whole h.each refl,
      behind_is is_ascii_digit whole behind_whole h.each refl,
      number_complete whole (value_of_digits whole) (record { digits = h; value = refl; fits = small }),
      within_64_bits-is (value_of_digits whole * 1000) product,
    )
    (from_point (value_of_digits whole * 1000) n decimals rest d few value fits ends)

written_complete : (whole decimals rest : List ℕ) (n places : ℕ) → AreDigits whole → Are is_ascii_digit decimals
    → length decimals ≡ places → places ≤ 3
    → n ≡ value_of_digits whole * 1000 + value_of_digits decimals * 10 ^ (3 - places) → n < 2 ^ 64 → Ends rest
    → decimal_at (decimal_text whole decimals ++ rest) ≡ Some (record { thousandths = n; places = places }, rest)
written_complete whole [] rest n places h d count few value fits ends = search (rules, few, value, plain_complete)
written_complete whole (b ∷ bs) rest n places h d count few value fits ends =
    let decimals : AreDigits (b ∷ bs) = record { some = omega arith; each = d } in
    let short : length (b ∷ bs) ≤ 3 = omega arith in
    let value_here : n ≡ value_of_digits whole * 1000 + value_of_digits (b ∷ bs) * 10 ^ (3 - length (b ∷ bs)) =
    subst (λ k. n ≡ value_of_digits whole * 1000 + value_of_digits (b ∷ bs) * 10 ^ (3 - k)) (sym count) value in
    let read = point_complete whole (b ∷ bs) rest n h decimals short value_here fits ends in
    subst (λ k. decimal_at ((whole ++ 46 ∷ b ∷ bs) ++ rest) ≡ Some (record { thousandths = n; places = k }, rest)) count
    (ap decimal_at (append_assoc whole (46 ∷ b ∷ bs) rest) ∙ read)

pub decimal_complete : (number rest : List ℕ) (n places : ℕ) → IsDecimal number n places → n < 2 ^ 64 → Ends rest
    → decimal_at (number ++ rest) ≡ Some (record { thousandths = n; places = places }, rest)
decimal_complete number rest n places h fits ends =
    ap (λ (xs : List ℕ). decimal_at (xs ++ rest)) h.parts
    ∙ written_complete h.whole h.decimals rest n places h.is_whole h.are_decimals h.count h.few h.value fits ends
