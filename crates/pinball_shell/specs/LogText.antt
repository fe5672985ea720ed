-- What the lines of a log say.
use Rattle.std.specs.Prelude.{ℕ, ◌-◌, nat_lt, nat_le, ◌==◌, Bool, true, false, ◌||◌, if◌then◌else◌, Option, Some, None}
use Rattle.std.specs.{Prelude.{List, [], ◌∷◌, length, slice_index, filter}, List.slice_split, Str.byte}
use Rattle.yaml_bytes.specs.{Bytes.is_blank, Numbers.number_at}

-- what a line asks for: a wait up to a moment, or at a moment a new raw level of the switch of a name
pub data LogLine : Type 0 where
  -- the line is empty, or a comment
  Nothing : LogLine
  Wait : (at : ℕ) → LogLine
  Change : (at : ℕ) (name : List ℕ) (level : Bool) → LogLine
  -- the line is none of these
  Unreadable : LogLine

-- the words of a line, which blanks part
abbrev pub words : List ℕ → List (List ℕ)
words line = filter (λ w. nat_lt 0 (length w)) (slice_split is_blank line)

-- whether the line begins or ends with a blank
abbrev pub has_outer_blank : List ℕ → Bool
has_outer_blank line = is_blank (slice_index line 0) || is_blank (slice_index line (length line - 1))

-- a moment is a number of at most 20 digits
abbrev pub moment_in : List ℕ → Option ℕ
moment_in word = if nat_le (length word) 20 then number_at word else None

-- `0` and `1` are the raw levels
abbrev pub level_in : List ℕ → Option Bool
level_in (digit ∷ []) = if digit == byte "0" then Some false else if digit == byte "1" then Some true else None
level_in other = None

abbrev pub wait : Option ℕ → LogLine
wait None = Unreadable
wait (Some at) = Wait at

abbrev pub change : Option ℕ → List ℕ → Option Bool → LogLine
change (Some at) name (Some level) = Change at name level
change (Some at) name None = Unreadable
change None name level = Unreadable

-- `MOMENT`, or `MOMENT SWITCH LEVEL`
abbrev pub said_in : List (List ℕ) → LogLine
said_in (moment ∷ []) = wait (moment_in moment)
said_in (moment ∷ name ∷ level ∷ []) = change (moment_in moment) name (level_in level)
said_in other = Unreadable

-- a line that is empty, or begins with `#`
abbrev pub says_nothing : List ℕ → Bool
says_nothing line = length line == 0 || slice_index line 0 == byte "#"

-- what a line says
abbrev pub meaning : List ℕ → LogLine
meaning line = if says_nothing line then Nothing else if has_outer_blank line then Unreadable else said_in (words line)
