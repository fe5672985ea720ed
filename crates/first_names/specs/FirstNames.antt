-- The names of a table in the order of their first uses.
use Rattle.std.specs.Prelude.{◌≡◌, ℕ, ◌<◌, ◌≤◌, ◌⊎◌, true, false, List, [], ◌∷◌, ◌++◌, if◌then◌else◌, length}
use Rattle.std.specs.{List.{list_any, position_or_len}, Str.bytes_eq}
use Rattle.plan_tables.specs.{declared.names.NameTable.NameTable, NamesKept.names_of}

-- the names after one more use: a new name goes last
abbrev pub with_name : List (List ℕ) → List ℕ → List (List ℕ)
with_name names name = if list_any (λ n. bytes_eq name n) names then names else names ++ name ∷ []

-- a table has all names, and they are within its limit; or there are more than that
abbrev pub IsNameTableOf : List (List ℕ) → NameTable → Type 0
IsNameTableOf all t =
    ((t.above ≡ true) × (t.limit < length all))
    ⊎ ((t.above ≡ false) × (names_of t.set.keys ≡ all) × (length all ≤ t.limit))

-- it is the name's place among all names after this use, if the table keeps them all
abbrev pub IsNumberIn : NameTable → (name : List ℕ) → ℕ → Type 0
IsNumberIn table name number =
    (all : List (List ℕ)) → IsNameTableOf all table → length (with_name all name) ≤ table.limit
    → number ≡ position_or_len (bytes_eq name) (with_name all name)
