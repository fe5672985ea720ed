-- Numbers as they are written, in decimal digits.
use Rattle.std.specs.{Prelude.{◌≡◌, ℕ, ◌+◌, ◌-◌, ◌*◌, ◌^◌, ◌≤◌, List, [], ◌∷◌, ◌++◌, length}, Char.is_ascii_digit}
use Rattle.yaml_bytes.specs.{Numbers.{value_of_digits, AreDigits}, Plain.Are}

-- digits, or digits, a point and more digits
abbrev pub decimal_text : List ℕ → List ℕ → List ℕ
decimal_text whole [] = whole
decimal_text whole (d ∷ ds) = whole ++ 46 ∷ d ∷ ds

-- The text is a number with so many decimals, at most three; it is so many thousandths.
pub record IsDecimal (text : List ℕ) (thousandths places : ℕ) : Type 0 where
  pub whole : List ℕ
  pub decimals : List ℕ
  pub parts : text ≡ decimal_text whole decimals
  pub is_whole : AreDigits whole
  pub are_decimals : Are is_ascii_digit decimals
  pub count : length decimals ≡ places
  pub few : places ≤ 3
  pub value : thousandths ≡ value_of_digits whole * 1000 + value_of_digits decimals * 10 ^ (3 - places)
