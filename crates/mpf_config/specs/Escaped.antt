-- How a name or a key is printed, so that it makes no line of its own.
use Rattle.std.specs.{Prelude.{ℕ, ◌+◌, ◌/◌, ◌%◌, Bool, ◌||◌, ◌==◌, nat_lt, if◌then◌else◌, List, [], ◌∷◌}, List.flat_map}

-- a byte below 32, as LF is, or 127
abbrev pub is_control : ℕ → Bool
is_control b = nat_lt b 32 || (b == 127)

-- 0 to 9, and a to f
abbrev pub hex_digit : ℕ → ℕ
hex_digit n = if nat_lt n 10 then 48 + n else 87 + n

-- such a byte as `\x` and two hexadecimal digits, any other as it is
abbrev pub escaped_byte : ℕ → List ℕ
escaped_byte b = if is_control b then 92 ∷ 120 ∷ hex_digit (b / 16) ∷ hex_digit (b % 16) ∷ [] else b ∷ []

unfoldable pub escape_bytes : List ℕ → List ℕ
escape_bytes text = flat_map escaped_byte text
