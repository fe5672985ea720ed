-- What is due: a moment, with what is due then. Switches and ball switches wait alike.
use Rattle.std.specs.Prelude.{ℕ, nat_le, if◌then◌else◌, Option, None, Some}

-- The earlier of two, and of equal moments the first argument.
abbrev pub sooner : {A : Type 0} → Option (ℕ × A) → Option (ℕ × A) → Option (ℕ × A)
sooner None b = b
sooner (Some a) None = Some a
sooner (Some a) (Some b) = if nat_le a.0 b.0 then Some a else Some b
