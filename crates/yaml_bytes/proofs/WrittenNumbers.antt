-- Numbers are read as digits write them.
use Rattle.std.proofs.Common.{◌≡◌, ℕ, ◌^◌, ◌<◌, nat_lt, true, false, Some, None, Result, List, length, sym, ◌∙◌, rules}
use Rattle.std.specs.{List.list_all, Char.is_ascii_digit, Str.{IsUtf8, Parse.ParsesUnsigned}}
use Rattle.std.specs.Result.{result_ok, OkIff, MatchResult}
use Rattle.std.proofs.lemmas.{Bool.{and_parts, ltb-true, lt-ltb, false≢true}, Fmt.IsAscii-from_digits, Option.cond_some}
use Rattle.std.proofs.lemmas.Str.{IsUtf8-from_ascii, Parse.{IsNumeralModel, numerals_by_weight, parse_digits}}
use Rattle.yaml_bytes.specs.Numbers.{value_of_digits, IsNumber, number_at}
use Rattle.yaml_bytes.proofs.{AllBytes.{Are-from_list_all, list_all-from_Are}, Each.none_of}

-- ---- digits, as `parse` has them

pub own : IsNumeralModel (λ ds. list_all is_ascii_digit ds ≡ true) value_of_digits
own = numerals_by_weight _ (search rules) value_of_digits (search rules)

pub digits_are_utf8 : (text : List ℕ) → list_all is_ascii_digit text ≡ true → IsUtf8 text
digits_are_utf8 text h = IsUtf8-from_ascii text (IsAscii-from_digits text (own.to text h))

-- ---- what a text is that is a number

pub number_sound : (text : List ℕ) (n : ℕ) → number_at text ≡ Some n → IsNumber text n
unfolding number_at
number_sound text n e = search (rules, nat_lt, cond_some, and_parts, ltb-true, Are-from_list_all)

pub number_complete : (text : List ℕ) (n : ℕ) → IsNumber text n → number_at text ≡ Some n
unfolding number_at
number_complete text n h = search (rules, lt-ltb, list_all-from_Are)

no_number : (text : List ℕ) → ((n : ℕ) → IsNumber text n → ⊥) → number_at text ≡ None
no_number text h = none_of (number_at text) (λ n e. h n (number_sound text n e))

-- ---- what `parse` gives

-- what is not digits alone is no number
pub not_digits : (text : List ℕ) → list_all is_ascii_digit text ≡ false → number_at text ≡ None
not_digits text h = no_number text (λ n k. false≢true (sym h ∙ list_all-from_Are is_ascii_digit text k.digits.each))

pub no_fault : {T E : Type 0} (r : Result T E) (P : T → Type 0) (Q : E → Type 0) → MatchResult r P Q
    → ((e : E) → Q e → ⊥) → result_ok r ≡ None → ⊥
no_fault x1 P Q h never e = search rules

pub found_ok : {T E : Type 0} (r : Result T E) (P : T → Type 0) (Q : E → Type 0) (x : T) → MatchResult r P Q
    → result_ok r ≡ Some x → P x
found_ok x1 P Q x h e = search rules

pub parsed : {E : Type 0} (text : List ℕ) (r : Result ℕ E) → list_all is_ascii_digit text ≡ true
    → ParsesUnsigned 64 10 text r → result_ok r ≡ number_at text
parsed {E} text r digits h = as_parsed r (parse_digits own 64 text r h digits)
  where
    as_parsed : (r : Result ℕ E) → OkIff r ((0 < length text) × (value_of_digits text < 2 ^ 64)) (value_of_digits text)
        → result_ok r ≡ number_at text
    as_parsed x1 k = search (rules, number_complete, Are-from_list_all, no_number)
