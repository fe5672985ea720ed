-- Reading lines and parts of them: what it gives, or the first fault and its place.
use Rattle.std.specs.Prelude.{◌≡◌, ℕ, Result, Ok, Err}
use Rattle.yaml_subset.specs.declared.{fault.TextFaultKind.TextFaultKind, place.{PlacedFault.PlacedFault, Halt.Halt}}
use Rattle.yaml_subset.specs.declared.place.Halt.TheVariants as halts

-- a fault on the line n where so many bytes of the line are left
abbrev pub fault_at : {A : Type 0} → TextFaultKind → ℕ → ℕ → Result A PlacedFault
fault_at kind n bytes_left = Err (record { kind = kind; line = n; bytes_left = bytes_left })

-- An answer, seen by view, is what reading gives, unless memory ran out.
abbrev pub HaltsAs : {Y : Type 0} → Halt → Result Y PlacedFault → Type 0
HaltsAs halts.NoMemory read = Unit {0}
HaltsAs (halts.At f) read = read ≡ Err f

abbrev pub GivesOrHalts : {X Y : Type 0} → (X → Y) → Result X Halt → Result Y PlacedFault → Type 0
GivesOrHalts view (Ok x) read = read ≡ Ok (view x)
GivesOrHalts view (Err e) read = HaltsAs e read
