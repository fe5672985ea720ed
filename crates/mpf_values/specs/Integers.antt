-- Texts that are integers.
use Rattle.std.specs.Prelude.{◌≡◌, ℕ, ◌≤◌, Bool, true, false, List, ◌∷◌, ℤ, pos, neg_ℤ}
use Rattle.yaml_bytes.specs.Numbers.{value_of_digits, AreDigits}

-- digits, with a `-` in front or without
abbrev pub with_sign : Bool → List ℕ → List ℕ
with_sign true digits = 45 ∷ digits
with_sign false digits = digits

abbrev pub signed : Bool → ℕ → ℤ
signed true n = neg_ℤ (pos n)
signed false n = pos n

-- the integer that a text is
pub record IsInteger (text : List ℕ) (n : ℤ) : Type 0 where
  pub negative : Bool
  pub digits : List ℕ
  pub parts : text ≡ with_sign negative digits
  pub are_digits : AreDigits digits
  pub value : n ≡ signed negative (value_of_digits digits)
  pub within : value_of_digits digits ≤ 1000000000
