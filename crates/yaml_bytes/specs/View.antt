-- What contracts see of a part of a text.
use Rattle.std.specs.{Prelude.{ℕ, List, Option, Some, None}, Borrow.Bor}

-- the rest of a text, apart from where it lies in memory
abbrev pub rest_view : Bor (List ℕ) → List ℕ
rest_view rest = rest.now

-- what an optional reference to a list points to, seen by f
abbrev pub option_slice : {A B : Type 0} → (List A → B) → Option (Bor (List A)) → Option B
option_slice f None = None
option_slice f (Some s) = Some (f s.now)
