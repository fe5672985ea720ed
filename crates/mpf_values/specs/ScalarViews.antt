-- What the readers' own contracts see of the values that they pass on.
use Rattle.std.specs.{Prelude.{ℕ, List, [], ◌∷◌, Option, Some, None}, Borrow.Bor}
use Rattle.mpf_values.specs.{declared.{decimals.Decimal.Decimal, handled.Comparison.Comparison}, Reading.items_of}

abbrev pub decimal_view : Decimal × Bor (List ℕ) → Decimal × List ℕ
decimal_view d = (d.0, d.1.now)

abbrev pub slices_view : Bor (List ℕ) × Bor (List ℕ) → List ℕ × List ℕ
slices_view s = (s.0.now, s.1.now)

abbrev pub compared_view : Comparison × Bor (List ℕ) → Comparison × List ℕ
compared_view c = (c.0, c.1.now)

-- the items of a list text, of which the first was found, or none
abbrev pub next_items : Option (Bor (List ℕ) × Bor (List ℕ)) → List (List ℕ)
next_items None = []
next_items (Some found) = found.0.now ∷ items_of found.1.now
