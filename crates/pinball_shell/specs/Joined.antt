-- A bundle with one text more.
use Rattle.std.specs.Prelude.{ℕ, ◌-◌, ◌==◌, ◌||◌, if◌then◌else◌, List, [], ◌∷◌, ◌++◌, length, slice_index, codes}

-- the line end that a text lacks: LF, unless the text is empty or ends with it
abbrev pub line_end : List ℕ → List ℕ
line_end text = if (length text == 0) || (slice_index text (length text - 1) == 10) then [] else 10 ∷ []

-- the bundle, the line `@ NAME`, and the text with its last line ended
abbrev pub join_text : List ℕ → List ℕ → List ℕ → List ℕ
join_text bundle name text = ((((bundle ++ codes "@ ") ++ name) ++ 10 ∷ []) ++ text) ++ line_end text
