-- Bytes of one kind are none of another.
use Rattle.std.{proofs.Common.{rules, ◌≡◌, ℕ, Bool, true, false, List, [], ◌∷◌}, specs.Char.is_ascii_digit}
use Rattle.yaml_bytes.specs.{Bytes.is_blank, Plain.Are}
use Rattle.mpf_values.specs.Bytes.{is_operator_byte, is_word_byte}

-- what holds of neither blank holds of no blank
pub no_blank : (p : ℕ → Bool) → p 32 ≡ false → p 9 ≡ false → (b : ℕ) → is_blank b ≡ true → p b ≡ false
no_blank p space tab b h = search rules

pub digit_is_no_blank : (b : ℕ) → is_ascii_digit b ≡ true → is_blank b ≡ false
digit_is_no_blank b h = search rules

pub digit_is_no_operator : (b : ℕ) → is_ascii_digit b ≡ true → is_operator_byte b ≡ false
digit_is_no_operator b h = search rules

digit_is_word : (b : ℕ) → is_ascii_digit b ≡ true → is_word_byte b ≡ true
digit_is_word b h = search rules

pub digits_are_word : (digits : List ℕ) → Are is_ascii_digit digits → Are is_word_byte digits
digits_are_word [] h = tt
digits_are_word (d ∷ ds) h = (digit_is_word d h.0, digits_are_word ds h.1)
