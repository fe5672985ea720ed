-- The keys of a mapping.
use Rattle.std.specs.{Prelude.{◌≡◌, ◌⊎◌, ℕ, Bool, List, [], map}, Str.bytes_eq, Cow.cow_slice_items, Global.Global}
use Rattle.std.specs.{List.list_any, HashSet.HashSet, declared.borrow.CowSlice.CowSlice}

-- whether a key is among these
abbrev pub is_among : List (List ℕ) → List ℕ → Bool
is_among keys key = list_any (λ k. bytes_eq k key) keys

-- the keys of a set that has copies of them
abbrev pub copies_view : {S : Type 0} → HashSet (CowSlice ℕ Global) S → List (List ℕ)
copies_view s = map cow_slice_items s.keys

-- these copies are of no keys at all, or the same keys are among them as among the keys
abbrev pub HasNoneOrAll : List (List ℕ) → List (List ℕ) → Type 0
HasNoneOrAll copies keys = (copies ≡ []) ⊎ ((q : List ℕ) → is_among copies q ≡ is_among keys q)
