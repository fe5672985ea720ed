-- What is written of a text has no byte that could end a line.
use Rattle.std.proofs.Common.{rules, ◌≡◌, ℕ, Bool, false, List, [], ◌∷◌, refl}
use Rattle.std.{specs.List.{All, flat_map}, proofs.lemmas.List.Elements.{All-nil, All-append}}
use Rattle.mpf_config.specs.Escaped.{is_control, escaped_byte, escape_bytes}

abbrev InLine : ℕ → Type 0
InLine b = is_control b ≡ false

byte_by : (b : ℕ) (control : Bool) → is_control b ≡ control → All InLine (escaped_byte b)
byte_by b control e = search rules

bytes_in_line : (text : List ℕ) → All InLine (flat_map escaped_byte text)
bytes_in_line [] = All-nil InLine
bytes_in_line (b ∷ bs) = All-append InLine (escaped_byte b) (flat_map escaped_byte bs) (byte_by b (is_control b) refl)
    (bytes_in_line bs)

pub escaped_in_line : (text : List ℕ) → All InLine (escape_bytes text)
unfolding escape_bytes
escaped_in_line text = bytes_in_line text
