-- The lines of a text. LF ends each line but the last, and a CR directly before that LF is no part of the line.
use Rattle.std.specs.Prelude.{ℕ, ◌==◌, Bool, false, ◌&&◌, ◌||◌, List, [], ◌∷◌, take, drop, Option, Some, None}
use Rattle.std.specs.{List.{slice_split, position_or_len}, Str.Lines.strip_carriage_return}

abbrev pub is_lf : ℕ → Bool
is_lf b = b == 10

-- whether LF comes first
abbrev pub begins_lf : List ℕ → Bool
begins_lf [] = false
begins_lf (b ∷ bs) = is_lf b

-- whether a line ends here: at LF, or at CR directly before it
abbrev pub ends_line : ℕ → List ℕ → Bool
ends_line b after = is_lf b || ((b == 13) && begins_lf after)

-- the bytes before the first LF, and from there on, as a line and what comes after it
abbrev pub line_with : List ℕ → List ℕ → List ℕ × Option (List ℕ)
line_with front [] = (front, None)
line_with front (lf ∷ after) = (strip_carriage_return front, Some after)

-- the first line of a text, and what comes after its LF, if it has one
abbrev pub cut_line : List ℕ → List ℕ × Option (List ℕ)
cut_line text = line_with (take (position_or_len is_lf text) text) (drop (position_or_len is_lf text) text)

-- the parts between the LFs of a text that begins with this part: it, and those of what comes after its LF
abbrev pub parts_from : List ℕ → List ℕ → List (List ℕ)
parts_from part [] = part ∷ []
parts_from part (lf ∷ after) = part ∷ slice_split is_lf after

-- the lines that the parts between LFs are
abbrev pub lines_between : List (List ℕ) → List (List ℕ)
lines_between [] = []
lines_between (last ∷ []) = last ∷ []
lines_between (part ∷ next ∷ more) = strip_carriage_return part ∷ lines_between (next ∷ more)

-- the lines of a text: one more than it has LFs, so that an LF at the end has an empty line after it
abbrev pub lines_of : List ℕ → List (List ℕ)
lines_of text = lines_between (slice_split is_lf text)

-- the lines of what comes after a line, if something does
abbrev pub lines_after : Option (List ℕ) → List (List ℕ)
lines_after None = []
lines_after (Some text) = lines_of text
