-- Which names are among uses.
use Rattle.std.specs.{Prelude.{◌≡◌, true, List, [], ◌∷◌}, Str.bytes_eq, List.list_any}
use Rattle.mpf_plan.specs.PlanOf.{Use, in_table}

-- the name is among these uses
abbrev pub IsNamed : List Use → Use → Type 0
IsNamed us u = list_any (bytes_eq u.1) (in_table u.0 us) ≡ true

-- so are all of these
abbrev pub AreNamed : (us more : List Use) → Type 0
AreNamed us [] = Unit {0}
AreNamed us (u ∷ more) = IsNamed us u × AreNamed us more
