-- The items of a list text: its longest pieces that have no separator outside braces.
use Rattle.std.specs.Prelude.{◌≡◌, ◌≢◌, ℕ, ◌+◌, ◌-◌, Bool, true, false, ◌&&◌, ◌==◌, if◌then◌else◌, List, [], ◌∷◌, ◌++◌}
use Rattle.yaml_bytes.specs.Plain.{Are}
use Rattle.mpf_values.specs.Bytes.{is_separator}

-- How many braces are open after a byte, if so many are open before it: a closing one that closes none is an ordinary
-- byte.
abbrev pub open_after : ℕ → ℕ → ℕ
open_after open_braces b = if b == 123 then open_braces + 1 else (if b == 125 then open_braces - 1 else open_braces)

-- how many braces are open after a text
abbrev pub open_behind : ℕ → List ℕ → ℕ
open_behind open_braces [] = open_braces
open_behind open_braces (b ∷ bs) = open_behind (open_after open_braces b) bs

-- whether an item ends before a byte: a separator does so outside braces
abbrev pub ends_item : ℕ → ℕ → Bool
ends_item open_braces b = (open_braces == 0) && is_separator b

-- some bytes, none of which is a separator outside braces
pub record IsItemText (item : List ℕ) : Type 0 where
  pub some : item ≢ []
  pub whole : (front rest : List ℕ) (b : ℕ) → item ≡ front ++ b ∷ rest → ends_item (open_behind 0 front) b ≡ false

-- an item ends with its text, or before a separator
abbrev pub EndsBefore : List ℕ → List ℕ → Type 0
EndsBefore item [] = Unit {0}
EndsBefore item (b ∷ behind) = ends_item (open_behind 0 item) b ≡ true

-- A list text is separators, an item and a list text after it, or separators alone.
abbrev pub IsListText : List ℕ → List (List ℕ) → Type 0
IsListText text [] = Are is_separator text
IsListText text (item ∷ items) =
    (before : List ℕ) × (behind : List ℕ) × (text ≡ before ++ (item ++ behind)) × Are is_separator before
    × IsItemText item × EndsBefore item behind × IsListText behind items
