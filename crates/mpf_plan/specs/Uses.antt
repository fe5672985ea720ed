-- The names that parts use, each where it comes first; and which of them have to be given.
use Rattle.std.specs.Prelude.{ℕ, Bool, true, false, not, ◌&&◌, List, [], ◌∷◌, filter}
use Rattle.std.specs.{List.{list_any, position_or_len}, Str.bytes_eq}
use Rattle.plan_tables.specs.declared.table.Table.{Table, TheVariants.{Events, Variables}}

-- ---- numbers

-- each item whose name no item before it has
abbrev pub first_by : {X : Type 0} → (X → List ℕ) → List X → List X
first_by name [] = []
first_by name (x ∷ xs) = x ∷ filter (λ y. not (bytes_eq (name x) (name y))) (first_by name xs)

-- a list of names, each where it comes first
abbrev pub first_uses : List (List ℕ) → List (List ℕ)
first_uses uses = first_by (λ name. name) uses

-- the names of each table, at their numbers
abbrev pub Names : Type 0
Names = Table → List (List ℕ)

-- a name's number is its place among the names
abbrev pub number_among : List (List ℕ) → List ℕ → ℕ
number_among names name = position_or_len (bytes_eq name) names

-- ---- names that nothing has

-- whether a part has to give a name of the table; an event exists by being used, and so does a variable
abbrev pub is_to_be_given : Table → Bool
is_to_be_given Events = false
is_to_be_given Variables = false
is_to_be_given _ = true

-- whether a name has to be given, and is not among those that are
abbrev pub is_lacking : Names → Table × List ℕ → Bool
is_lacking there (table, n) = is_to_be_given table && not (list_any (bytes_eq n) (there table))
