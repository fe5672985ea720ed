-- The lowest coil of which something is true.
use Rattle.std.specs.Prelude.{◌≡◌, ◌<◌, ℕ, zero, suc, Bool, true, false, if◌then◌else◌, Option, None, Some}
use Rattle.plan_tables.specs.declared.entries.CoilId.{CoilId}

-- the first of two, if it is there
abbrev pub first_of_two : Option CoilId → Option CoilId → Option CoilId
first_of_two None b = b
first_of_two (Some a) b = Some a

-- the lowest of so many coils of which the test is true
abbrev pub lowest : (CoilId → Bool) → ℕ → Option CoilId
lowest test zero = None
lowest test (suc n) = first_of_two (lowest test n) (if test (record { 0 = n }) then Some (record { 0 = n }) else None)

-- Of so many coils it is the lowest of which the test is true; there is none if the test is true of none.
abbrev pub IsLowest : (CoilId → Bool) → ℕ → Option CoilId → Type 0
IsLowest test count None = (coil : CoilId) → coil.0 < count → test coil ≡ false
IsLowest test count (Some coil) =
    (coil.0 < count) × (test coil ≡ true) × ((lower : CoilId) → lower.0 < coil.0 → test lower ≡ false)
