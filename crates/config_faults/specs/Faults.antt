-- What a fault is, where it is, and what a result with one says.
use Rattle.std.specs.Prelude.{◌≡◌, ℕ, List, Result, Ok, Err}
use Rattle.config_faults.specs.declared.fault.{BundleFault.BundleFault, ConfigFault.ConfigFault}
use Rattle.config_faults.specs.declared.fault.BundleFaultKind.{BundleFaultKind}
use Rattle.config_faults.specs.declared.fault.ConfigFault.TheVariants as faults
use Rattle.config_faults.specs.declared.spot.Spot as spots

-- what is wrong, in which text, at which line, and with which key
pub record RowsFault : Type 0 where
  pub kind : BundleFaultKind
  pub text : List ℕ
  pub line : ℕ
  pub key : List ℕ

-- where a fault stands: in which text, at which line, and with which key
pub record Spot : Type 0 where
  pub text : List ℕ
  pub line : ℕ
  pub key : List ℕ

abbrev pub rows_fault_at : BundleFaultKind → Spot → RowsFault
rows_fault_at kind spot = record { kind = kind; text = spot.text; line = spot.line; key = spot.key }

abbrev pub refuse : {A : Type 0} → BundleFaultKind → Spot → Result A RowsFault
refuse kind spot = Err (rows_fault_at kind spot)

-- ---- what contracts see

abbrev pub spot_view : spots.Spot → Spot
spot_view s = record { text = s.text.now; line = s.line; key = s.key.now }

abbrev pub rows_fault_view : BundleFault → RowsFault
rows_fault_view f = record { kind = f.kind; text = f.text.items; line = f.line; key = f.key.items }

-- An answer, seen by view, is what reading gives, unless memory ran out.
abbrev pub FailsRows : {Y : Type 0} → ConfigFault → Result Y RowsFault → Type 0
FailsRows faults.NoMemory read = Unit {0}
FailsRows (faults.Bundle f) read = read ≡ Err (rows_fault_view f)

abbrev pub GivesRows : {X Y : Type 0} → (X → Y) → Result X ConfigFault → Result Y RowsFault → Type 0
GivesRows view (Ok x) read = read ≡ Ok (view x)
GivesRows view (Err e) read = FailsRows e read

-- a fault of this kind that stands here
abbrev pub IsFaultAt : BundleFaultKind → spots.Spot → BundleFault → Type 0
IsFaultAt kind spot fault = rows_fault_view fault ≡ rows_fault_at kind (spot_view spot)
