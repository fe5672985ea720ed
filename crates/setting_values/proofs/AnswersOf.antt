-- What an answer means whose value is what is read.
use Rattle.std.proofs.Common.{rules, ◌≡◌, ◌≢◌, Result, Ok, IfOk, IfErr}
use Rattle.setting_values.specs.Reading.{IsReadOr}
use Rattle.config_faults.specs.{declared.fault.ConfigFault.ConfigFault, Faults.{RowsFault, GivesRows}}
use Rattle.config_faults.specs.declared.fault.ConfigFault.TheVariants as faults

-- read gives what Is relates, within the limits
module _ {S X Y : Type 0} (limits : S) (view : X → Y) (read : Result Y RowsFault) (Is Above : S → Y → Type 0) where
  pub is_found : ((y : Y) → read ≡ Ok y → Is limits y) → (r : Result X ConfigFault) → GivesRows view r read
      → IfOk r (λ x. Is limits (view x))
  is_found sound x2 h = search rules

  pub is_only : ((sizes : S) (y : Y) → Is sizes y → IsReadOr (Above sizes y) read y) → (r : Result X ConfigFault)
      → GivesRows view r read → IfOk r (λ x. (sizes : S) (y : Y) → Is sizes y → y ≡ view x)
  is_only complete x2 h = search rules

  pub is_refused : ((sizes : S) (y : Y) → Is sizes y → IsReadOr (Above sizes y) read y) → (r : Result X ConfigFault)
      → GivesRows view r read
      → IfErr r (λ e. e ≢ faults.NoMemory → (sizes : S) (y : Y) → Is sizes y → Above sizes y)
  is_refused complete x2 h = search rules
