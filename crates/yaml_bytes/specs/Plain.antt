-- Blanks, and words without quotes, on a line.
use Rattle.std.specs.Prelude.{◌≡◌, ℕ, ◌<◌, Bool, true, false, ◌&&◌, ◌||◌, List, [], ◌∷◌, ◌++◌, length, drop}
use Rattle.std.specs.{Prelude.{slice_index, ◌==◌}, List.AllByRecursion}
use Rattle.yaml_bytes.specs.Bytes.{is_blank, begins_blank, is_flow_indicator, begins_break, begins_word}

-- every byte passes the test p
abbrev pub Are : (ℕ → Bool) → List ℕ → Type 0
Are p = AllByRecursion (λ b. p b ≡ true)

-- every byte is a blank
abbrev pub AreBlank : List ℕ → Type 0
AreBlank = Are is_blank

-- what follows the blanks at the front of a text
pub record IsBehindBlanks (text rest : List ℕ) : Type 0 where
  pub blanks : List ℕ
  pub are_blank : AreBlank blanks
  pub parts : text ≡ blanks ++ rest
  pub no_more : begins_blank rest ≡ false

-- Whether a plain word ends before what follows: nothing, `#` after a blank, `:` before a gap, or in flow one of
-- `, [ ] { }` or a `:` directly before one of these. The byte in front is given.
abbrev pub ends_word : Bool → ℕ → List ℕ → Bool
ends_word flow before [] = true
ends_word flow before (b ∷ after) = (flow && is_flow_indicator b)
    || (((b == 35) && is_blank before) || ((b == 58) && begins_break flow after))

-- whether a plain word ends at the place n, if the text counts as one after a blank
abbrev pub ends_word_at : Bool → List ℕ → ℕ → Bool
ends_word_at flow text n = ends_word flow (slice_index (32 ∷ text) n) (drop n text)

-- the first place where a plain word ends
pub record IsWordEnd (flow : Bool) (text : List ℕ) (n : ℕ) : Type 0 where
  pub here : ends_word_at flow text n ≡ true
  pub not_before : (k : ℕ) → k < n → ends_word_at flow text k ≡ false

-- no blank comes last
abbrev pub EndsInNoBlank : List ℕ → Type 0
EndsInNoBlank plain = (front : List ℕ) (b : ℕ) → plain ≡ front ++ b ∷ [] → is_blank b ≡ false

-- A plain word at the front: up to the first place where one ends, but for the blanks directly before that place.
pub record IsPlainWord (flow : Bool) (text plain blanks rest : List ℕ) : Type 0 where
  pub begins : begins_word flow text ≡ true
  pub parts : text ≡ plain ++ (blanks ++ rest)
  pub ends : IsWordEnd flow text (length (plain ++ blanks))
  pub are_blank : AreBlank blanks
  pub no_more : EndsInNoBlank plain
