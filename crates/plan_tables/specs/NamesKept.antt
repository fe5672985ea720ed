-- The names that a table keeps.
use Rattle.std.specs.{Prelude.{ℕ, List, [], Option, None, Some, map, Vec}, Global.Global}
use Rattle.plan_tables.specs.declared.names.NameTable.{NameTable}

-- the names in a set of them
abbrev pub names_of : List (Vec ℕ Global) → List (List ℕ)
names_of keys = map (λ v. v.items) keys

abbrev pub names_kept : Option NameTable → List (List ℕ)
names_kept None = []
names_kept (Some t) = names_of t.set.keys
