-- Whether devices are those of a plan, in their first states.
use Rattle.std.specs.Prelude.{◌≡◌, ℕ, ◌<◌, List, length, map, slice_get, Some}
use Rattle.plan_tables.specs.{PlanView.{PlanView, row_at}, declared.devices.DeviceRow.DeviceRow}
use Rattle.device_objects.specs.{declared.state.DeviceState.DeviceState, DeviceStep.first_state}

-- at this number there is a row, and the device of the row in its first state
pub record IsRight (plan : PlanView) (rows : List DeviceRow) (states : List DeviceState) (number : ℕ) : Type 0 where
  pub there : number < length plan.rows
  pub row : slice_get rows number ≡ Some (row_at plan (record { 0 = number }))
  pub state : slice_get states number ≡ Some (first_state (row_at plan (record { 0 = number })).settings)

-- the devices are those of the rows, one for each, in their first states
pub record IsFit (plan : PlanView) (rows : List DeviceRow) (states : List DeviceState) : Type 0 where
  pub rows_are : rows ≡ plan.rows
  pub states_are : states ≡ map (λ row. first_state row.settings) plan.rows

-- the first number at which a row has no such device, or a device no row
pub record IsFirstWrong (plan : PlanView) (rows : List DeviceRow) (states : List DeviceState) (number : ℕ) : Type
    0 where
  pub before : (other : ℕ) → other < number → IsRight plan rows states other
  pub wrong : ¬ (IsRight plan rows states number)
  pub unfit : ¬ (IsFit plan rows states)
