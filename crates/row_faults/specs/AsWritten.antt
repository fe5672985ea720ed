-- What the settings of an entry have, in the order in which the settings are written.
use Rattle.std.specs.Prelude.{ℕ, ◌==◌, nat_lt, if◌then◌else◌, List, [], ◌∷◌, length, map, position, unwrap_or}
use Rattle.std.specs.List.{flat_map}
use Rattle.section_tables.specs.Shapes.{Setting}
use Rattle.mpf_sections.specs.Typed.{place_of}

-- ---- lists in order

-- an item before the first one of no lower number
abbrev pub put_by : {X : Type 0} → (X → ℕ) → X → List X → List X
put_by number x [] = x ∷ []
put_by number x (y ∷ ys) = if nat_lt (number y) (number x) then y ∷ put_by number x ys else x ∷ y ∷ ys

-- items by their numbers, lowest first, equal ones as they are
abbrev pub ordered_by : {X : Type 0} → (X → ℕ) → List X → List X
ordered_by number [] = []
ordered_by number (x ∷ xs) = put_by number x (ordered_by number xs)

-- ---- settings, by their places in the section's table

-- how many settings are written before the one at a place; if that one is not written, how many are written
abbrev pub written_before : List ℕ → ℕ → ℕ
written_before order place = unwrap_or (position (λ p. p == place) order) (length order)

-- what settings have, each given with its place, in the order in which the settings are written
unfoldable pub in_order : {X : Type 0} → List ℕ → List (ℕ × List X) → List X
in_order order parts = flat_map (λ part. part.1) (ordered_by (λ part. written_before order part.0) parts)

-- the same, when each is given with the key of its setting
abbrev pub as_written : {X : Type 0} → List Setting → List ℕ → List (List ℕ × List X) → List X
as_written table order parts = in_order order (map (λ part. (place_of table part.0, part.1)) parts)
