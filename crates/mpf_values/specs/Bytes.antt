-- What the bytes of a value are.
use Rattle.std.specs.{Prelude.{ℕ, Bool, not, ◌&&◌, ◌||◌, ◌==◌}, Char.is_ascii_alphanumeric}
use Rattle.yaml_bytes.specs.Bytes.{is_blank}

-- an ASCII letter, a digit, `_`, `-` or `.`
abbrev pub is_name_byte : ℕ → Bool
is_name_byte b = ((is_ascii_alphanumeric b || (b == 95)) || (b == 45)) || (b == 46)

-- `=`, `!`, `<` and `>`
abbrev pub is_operator_byte : ℕ → Bool
is_operator_byte b = (((b == 61) || (b == 33)) || (b == 60)) || (b == 62)

-- neither a blank nor a closing brace
abbrev pub is_word_byte : ℕ → Bool
is_word_byte b = not (is_blank b) && not (b == 125)

-- a comma, a space or a tab
abbrev pub is_separator : ℕ → Bool
is_separator b = (b == 44) || is_blank b
