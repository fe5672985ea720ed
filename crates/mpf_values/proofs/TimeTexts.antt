-- Times are read as they are written.
use Rattle.std.proofs.Common.{rules, ◌≡◌, ℕ, ◌*◌, ◌<◌, ◌≤◌, ◌^◌, true, false, cond, ◌==◌, Option, List, [], ◌++◌, Some}
use Rattle.std.proofs.Common.{None, codes, refl, sym, ap, ◌∙◌, inl, inr, arith}
use Rattle.std.{specs.{Char.is_ascii_digit, Str.bytes_eq}, proofs.lemmas.{Option.same_Some, Slice.Eq.bytes_eq-Decides}}
use Rattle.yaml_bytes.{specs.Bytes.is_blank, proofs.Steps.chosen}
use Rattle.mpf_values.specs.Times.{IsUnit, bare, milliseconds, seconds, minutes, hours, days, IsTime}
use Rattle.mpf_values.specs.Reading.{◌>>=◌, front, behind, within_64_bits, decimal_at, unit_at, whole_at, time_at}
use Rattle.mpf_values.proofs.Steps.{bind_some, guard_true, within_64_bits-some, within_64_bits-is}
use Rattle.mpf_values.proofs.Fronts.{begins, behind_is, begins_behind, parts, are_front}
use Rattle.mpf_values.proofs.{ByteKinds.no_blank, Computing.Computes}
use Rattle.mpf_values.proofs.WrittenNumbers.{decimal_sound, Ends, decimal_complete}

-- ---- units

unit_is : (text word : List ℕ) (n m : ℕ) → bytes_eq text word ≡ true → IsUnit word m → Some m ≡ Some n → IsUnit text n
unit_is text word n m e h is = rw ((bytes_eq-Decides text word).0 e, ← same_Some m n is) h

unit_sound : (text : List ℕ) (n : ℕ) → unit_at text ≡ Some n → IsUnit text n
unfolding unit_at
unit_sound text n e =
    let days_test = bytes_eq text (codes "d") in
    let hours_test = bytes_eq text (codes "h") in
    let minutes_test = bytes_eq text (codes "m") in
    let seconds_test = bytes_eq text (codes "s") in
    let at_days : Option ℕ = cond days_test (Some 86400000) None in
    let at_hours : Option ℕ = cond hours_test (Some 3600000) at_days in
    let at_minutes : Option ℕ = cond minutes_test (Some 60000) at_hours in
    let at_seconds : Option ℕ = cond seconds_test (Some 1000) at_minutes in
    let at_milliseconds : Option ℕ = cond (bytes_eq text (codes "ms")) (Some 1) at_seconds in
    elim (chosen (bytes_eq text []) (Some 1) at_milliseconds (Some n) e) [
      | inl a ↦ unit_is text [] n 1 a.0 bare a.1
      | inr b ↦ elim (chosen (bytes_eq text (codes "ms")) (Some 1) at_seconds (Some n) b.1) [
        | inl a ↦ unit_is text (codes "ms") n 1 a.0 milliseconds a.1
        | inr c ↦ elim (chosen seconds_test (Some 1000) at_minutes (Some n) c.1) [
          | inl a ↦ unit_is text (codes "s") n 1000 a.0 seconds a.1
          | inr d ↦ elim (chosen minutes_test (Some 60000) at_hours (Some n) d.1) [
            | inl a ↦ unit_is text (codes "m") n 60000 a.0 minutes a.1
            | inr f ↦ elim (chosen hours_test (Some 3600000) at_days (Some n) f.1) [
              | inl a ↦ unit_is text (codes "h") n 3600000 a.0 hours a.1
              | inr g ↦ let a = guard_true days_test (Some 86400000) n g.1
                  in unit_is text (codes "d") n 86400000 a.0 days a.1
            ]
          ]
        ]
      ]
    ]

unit_complete : {unit : List ℕ} {n : ℕ} → IsUnit unit n → unit_at unit ≡ Some n
unfolding unit_at
unit_complete x1 = search rules

-- a unit begins with no blank, digit or point
record IsNoNumber (unit : List ℕ) : Type 0 where
  blank : begins is_blank unit ≡ false
  digit : begins is_ascii_digit unit ≡ false
  point : begins (λ b. b == 46) unit ≡ false

unit_begins : {unit : List ℕ} {n : ℕ} → IsUnit unit n → IsNoNumber unit
unit_begins bare = record { blank = refl; digit = refl; point = refl }
unit_begins milliseconds = record { blank = refl; digit = refl; point = refl }
unit_begins seconds = record { blank = refl; digit = refl; point = refl }
unit_begins minutes = record { blank = refl; digit = refl; point = refl }
unit_begins hours = record { blank = refl; digit = refl; point = refl }
unit_begins days = record { blank = refl; digit = refl; point = refl }

unit_not_less : (t : ℕ) {unit : List ℕ} {n : ℕ} → IsUnit unit n → t ≤ t * n
unit_not_less t x2 = search rules

-- ---- whole milliseconds

whole_sound : (product ms : ℕ) → whole_at product ≡ Some ms → (ms * 1000 ≡ product) × (ms < 2 ^ 32)
whole_sound product ms e = search rules

whole_complete : (ms : ℕ) → ms < 2 ^ 32 → whole_at (ms * 1000) ≡ Some ms
whole_complete ms below = search rules

-- ---- times

time_sound : (text : List ℕ) (ms : ℕ) → time_at text ≡ Some ms → IsTime text ms
unfolding time_at
time_sound text ms e =
    let a = bind_some (decimal_at text) (λ d. unit_at (behind is_blank d.1) >>= λ unit. within_64_bits
    (d.0.thousandths * unit) >>= λ product. whole_at product) ms e in
    let f = decimal_sound text a.0 a.1 in
    let rest = a.0.1 in
    let b = bind_some (unit_at (behind is_blank rest))
    (λ unit. within_64_bits (a.0.0.thousandths * unit) >>= λ product. whole_at product) ms a.2 in
    let c = bind_some (within_64_bits (a.0.0.thousandths * b.0)) (λ product. whole_at product) ms b.2 in
    let w = whole_sound c.0 ms c.2 in
    record {
      number = f.number;
      blanks = front is_blank rest;
      unit = behind is_blank rest;
      parts = f.parts ∙ ap (λ (xs : List ℕ). f.number ++ xs) (sym (parts is_blank rest));
      thousandths = a.0.0.thousandths;
      places = a.0.0.places;
      is_number = f.is;
      are_blank = are_front is_blank rest;
      each = b.0;
      is_unit = unit_sound (behind is_blank rest) b.0 b.1;
      value = w.0 ∙ sym (within_64_bits-some (a.0.0.thousandths * b.0) c.0 c.1).0;
      below = w.1;
    }

time_complete : (text : List ℕ) (ms : ℕ) → IsTime text ms → time_at text ≡ Some ms
unfolding time_at
time_complete text ms h =
    let rest = h.blanks ++ h.unit in
    let none = unit_begins h.is_unit in
    let ends : Ends rest = record {
      digit = begins_behind is_blank is_ascii_digit h.blanks h.unit (no_blank is_ascii_digit refl refl) h.are_blank
          none.digit;
      point = begins_behind is_blank (λ b. b == 46) h.blanks h.unit (no_blank (λ b. b == 46) refl refl) h.are_blank
          none.point;
    } in
    let le = unit_not_less h.thousandths h.is_unit in
    let value = h.value in
    let below = h.below in
    let fits : h.thousandths < 2 ^ 64 = omega arith in
    let product : h.thousandths * h.each < 2 ^ 64 = omega arith in
    let number = decimal_complete h.number rest h.thousandths h.places h.is_number fits ends in
    rw (
      h.parts,
      number,
      behind_is is_blank h.blanks h.unit h.are_blank none.blank,
      unit_complete h.is_unit,
      within_64_bits-is (h.thousandths * h.each) product,
      ← h.value,
    ) (whole_complete ms h.below)

pub time_computes : (text : List ℕ) → Computes (time_at text) (IsTime text)
time_computes text = record { sound = time_sound text; complete = time_complete text }
