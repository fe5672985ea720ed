-- Numbers of few digits, read digit by digit.
use Rattle.std.proofs.Common.{rules, ◌≡◌, ℕ, suc, ◌+◌, ◌-◌, ◌*◌, ◌^◌, ◌<◌, ◌≤◌, nat_le, true, Some, None, List, [], ◌∷◌}
use Rattle.std.proofs.Common.{◌++◌, length, take, get_or, refl, sym, ap, ◌∙◌, arith, length-append, length-take-le}
use Rattle.std.specs.{List.list_all, Char.is_ascii_digit}
use Rattle.std.proofs.lemmas.List.{take_more, take_all, Folds.list_all-append}
use Rattle.std.proofs.lemmas.{Bool.{cond-true, le-leb}, Str.Parse.digits_value_short}
use Rattle.yaml_bytes.specs.Numbers.{value_of_digits, number_at}
use Rattle.yaml_bytes.proofs.{AllBytes.Are-from_list_all, WrittenNumbers.{own, number_complete}}
use Rattle.pinball_shell.specs.LogText.{moment_in}
use native.Mathlib.Nat.{pow-zero, pow-suc, mul_assoc}

-- one digit more
value-more : (ds : List ℕ) (d : ℕ) → value_of_digits (ds ++ d ∷ []) ≡ value_of_digits ds * 10 + (d - 48)
value-more [] d = omega (arith, ap (λ x. (d - 48) * x) (pow-zero 10))
value-more (c ∷ cs) d =
    let more : length (cs ++ d ∷ []) ≡ suc (length cs) = omega (arith, length-append cs (d ∷ [])) in
    let weight : 10 ^ length (cs ++ d ∷ []) ≡ 10 ^ length cs * 10 = ap (λ n. 10 ^ n) more ∙ pow-suc 10 (length cs) in
    omega (arith, value-more cs d, ap (λ x. (c - 48) * x) weight, mul_assoc (c - 48) (10 ^ length cs) 10)

-- digits of which there are 18 at most
pub number-small : (text : List ℕ) (i : ℕ) → i ≤ 18 → i ≤ length text → list_all is_ascii_digit (take i text) ≡ true
    → value_of_digits (take i text) < 10 ^ 18
number-small text i few within digits = digits_value_short own (take i text) 18 digits
    (omega (arith, length-take-le i text within))

-- the byte after digits is one as well
pub digits-more : (word : List ℕ) (i d : ℕ) → i < length word → list_all is_ascii_digit (take i word) ≡ true
    → is_ascii_digit (get_or word i d) ≡ true
    → list_all is_ascii_digit (take (i + 1) word) ≡ true
digits-more word i d within digits digit =
    ap (list_all is_ascii_digit) (take_more word i d within) ∙ list_all-append is_ascii_digit (take i word) _
    ∙ (rw (digits, digit) refl)

pub number-more : (word : List ℕ) (i d : ℕ) → i < length word
    → value_of_digits (take (i + 1) word) ≡ value_of_digits (take i word) * 10 + (get_or word i d - 48)
number-more word i d within = ap value_of_digits (take_more word i d within)
    ∙ value-more (take i word) (get_or word i d)

-- 1 to 18 digits are a number
number-few : (digits : List ℕ) (n : ℕ) → 0 < length digits → length digits ≤ 18 → list_all is_ascii_digit digits ≡ true
    → n ≡ value_of_digits digits → number_at digits ≡ Some n
number-few digits n some few are value =
    number_complete digits n (record {
      digits = record { some = some; each = Are-from_list_all is_ascii_digit digits are };
      value = sym value;
      fits = omega (arith, value, digits_value_short own digits 18 are few);
    })

-- and a moment
pub moment-few : (digits : List ℕ) (n : ℕ) → 0 < length digits → length digits ≤ 18
    → list_all is_ascii_digit digits ≡ true → n ≡ value_of_digits digits → moment_in digits ≡ Some n
moment-few digits n some few are value = cond-true (nat_le (length digits) 20) (number_at digits) None
    (le-leb (length digits) 20 (omega arith)) ∙ number-few digits n some few are value

-- the same, for a text that is all digits
pub moment-all : (text : List ℕ) (i n : ℕ) → 0 < i → i ≤ 18 → i ≡ length text
    → list_all is_ascii_digit (take i text) ≡ true → n ≡ value_of_digits (take i text) → moment_in text ≡ Some n
moment-all text i n some few whole digits value = search (rules, take_all, moment-few)
