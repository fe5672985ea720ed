-- The lines of a text, and which of them have content.
use Rattle.std.specs.Prelude.{◌≡◌, ℕ, ◌+◌, true, false, List, [], ◌∷◌, ◌++◌, replicate, Option, Some, None}
use Rattle.std.specs.{List.AllByRecursion, Option.option_to_list, Str.{IsUtf8, chars}}
use Rattle.yaml_bytes.specs.{Bytes.{begins_blank, is_over, is_document_marker, is_forbidden}, Plain.IsBehindBlanks}

-- a line with content: its number, its indentation, and what comes after the spaces at its front
pub record TextLine : Type 0 where
  pub number : ℕ
  pub indent : ℕ
  pub text : List ℕ

-- Spaces, and then a text: neither a blank comes first nor a comment, and the line is no `---` or `...`.
pub record IsContentLine (raw : List ℕ) (l : TextLine) : Type 0 where
  pub parts : raw ≡ replicate l.indent 32 ++ l.text
  pub no_more : begins_blank l.text ≡ false
  pub not_over : is_over l.text ≡ false
  pub no_marker : is_document_marker raw ≡ false

-- What the line n holds: nothing but blanks and a comment, or content.
abbrev pub Holds : ℕ → List ℕ → Option TextLine → Type 0
Holds n raw None = (rest : List ℕ) × IsBehindBlanks raw rest × (is_over rest ≡ true)
Holds n raw (Some l) = (l.number ≡ n) × IsContentLine raw l

-- a line of UTF-8 without a forbidden character
pub record IsTextLine (n : ℕ) (raw : List ℕ) (result : Option TextLine) : Type 0 where
  pub utf8 : IsUtf8 raw
  pub is_allowed : AllByRecursion (λ c. is_forbidden c ≡ false) (chars raw)
  pub holds : Holds n raw result

-- the lines with content, of lines with the numbers from n on
abbrev pub HaveContent : ℕ → List (List ℕ) → List TextLine → Type 0
HaveContent n [] lines = lines ≡ []
HaveContent n (raw ∷ raws) lines = (result : Option TextLine) × (rest : List TextLine) × IsTextLine n raw result
    × HaveContent (n + 1) raws rest × (lines ≡ option_to_list result ++ rest)
