-- How a bundle holds texts, and how a text begins.
use Rattle.std.specs.Prelude.{ℕ, suc, ◌+◌, Bool, true, false, ◌&&◌, ◌==◌, if◌then◌else◌, List, [], ◌∷◌, ◌++◌, Option}
use Rattle.std.specs.{Prelude.{Some, None, unwrap_or, codes}, List.count_by, Str.bytes_eq}
use Rattle.yaml_bytes.specs.{Bytes.is_blank, Lines.cut_line, Scanning.{behind_blanks, trim_blanks}}

-- a text, and the name in the line `@ NAME` in front of it
pub record NamedText : Type 0 where
  pub name : List ℕ
  pub text : List ℕ

-- the name of the machine text
abbrev pub machine_name : List ℕ
machine_name = codes "config/config.yaml"

-- the name of the text of a mode
abbrev pub mode_text_name : List ℕ → List ℕ
mode_text_name mode = codes "modes/" ++ mode ++ codes "/config/" ++ mode ++ codes ".yaml"

-- the name of the machine as an owner, which no mode may have
abbrev pub machine_owner : List ℕ
machine_owner = codes "machine"

-- the first line of a text, of the version that is read
abbrev pub version_line : List ℕ
version_line = codes "#config_version=6"

-- the first line of a text, and the text after it
abbrev pub first_line : List ℕ → List ℕ
first_line text = (cut_line text).0

abbrev pub behind_first_line : List ℕ → List ℕ
behind_first_line text = unwrap_or (cut_line text).1 []

-- the name in a line `@ NAME`
abbrev pub name_in : List ℕ → Option (List ℕ)
name_in [] = None
name_in (a ∷ []) = None
name_in (a ∷ b ∷ rest) = if (a == 64) && is_blank b then Some (trim_blanks (behind_blanks rest)) else None

-- ---- pieces of a bundle: each a line that begins with `@`, and what stands behind it up to the next

-- a piece in front of others; an empty one is dropped
abbrev pub onto_pieces : List ℕ → List (List ℕ) → List (List ℕ)
onto_pieces [] pieces = pieces
onto_pieces (b ∷ piece) pieces = (b ∷ piece) ∷ pieces

-- a byte in front of a piece and those behind it, or as the first of the next
abbrev pub onto_piece : Bool → ℕ → List ℕ × List (List ℕ) → List ℕ × List (List ℕ)
onto_piece true b pieces = ([], (b ∷ pieces.0) ∷ pieces.1)
onto_piece false b pieces = (b ∷ pieces.0, pieces.1)

-- the bytes before the next line that begins with `@`, and the pieces from there on, whether the first byte begins a
-- line or not
abbrev pub pieces_from : Bool → List ℕ → List ℕ × List (List ℕ)
pieces_from begins [] = ([], [])
pieces_from begins (b ∷ bs) = onto_piece (begins && (b == 64)) b (pieces_from (b == 10) bs)

-- the pieces of a bundle; the first may begin with a line without `@`
unfoldable pub pieces_of : List ℕ → List (List ℕ)
pieces_of bundle = onto_pieces (pieces_from true bundle).0 (pieces_from true bundle).1

-- how many bytes stand before the next line that begins with `@`
abbrev pub piece_len : Bool → List ℕ → ℕ
piece_len begins [] = 0
piece_len begins (b ∷ bs) = if begins && (b == 64) then 0 else suc (piece_len (b == 10) bs)

-- how many lines end in a piece
abbrev pub line_ends : List ℕ → ℕ
line_ends piece = count_by (λ b. b == 10) piece

-- each piece with the number of its first line, counted from this one
abbrev pub number_lines : ℕ → List (List ℕ) → List (ℕ × List ℕ)
number_lines line [] = []
number_lines line (piece ∷ pieces) = (line, piece) ∷ number_lines (line + line_ends piece) pieces

-- ---- the version

-- whether a text begins with the line of the version that is read
abbrev pub has_version : List ℕ → Bool
has_version text = bytes_eq (trim_blanks (first_line text)) version_line
