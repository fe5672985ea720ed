-- Numbers as they are written, in decimal digits.
use Rattle.std.specs.Prelude.{◌≡◌, ℕ, ◌+◌, ◌-◌, ◌*◌, ◌^◌, ◌<◌, nat_lt, Bool, ◌&&◌, if◌then◌else◌, Option, Some, None}
use Rattle.std.specs.{Prelude.{List, [], ◌∷◌, length}, List.list_all, Char.is_ascii_digit}
use Rattle.yaml_bytes.specs.Plain.{Are}

-- the number that digits write: each is worth ten times the one after it
abbrev pub value_of_digits : List ℕ → ℕ
value_of_digits [] = 0
value_of_digits (d ∷ ds) = (d - 48) * 10 ^ length ds + value_of_digits ds

-- one decimal digit or more
pub record AreDigits (digits : List ℕ) : Type 0 where
  pub some : 0 < length digits
  pub each : Are is_ascii_digit digits

-- the text is decimal digits alone, and n is their number, which is below 2^64
pub record IsNumber (text : List ℕ) (n : ℕ) : Type 0 where
  pub digits : AreDigits text
  pub value : value_of_digits text ≡ n
  pub fits : n < 2 ^ 64

-- whether a text is one digit or more and nothing else, with a number below 2^64
abbrev pub is_number : List ℕ → Bool
is_number text = nat_lt 0 (length text) && list_all is_ascii_digit text && nat_lt (value_of_digits text) (2 ^ 64)

-- the number that a text is
unfoldable pub number_at : List ℕ → Option ℕ
number_at text = if is_number text then Some (value_of_digits text) else None
