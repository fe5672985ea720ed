-- What the devices of a machine are, once they have stopped.
use Rattle.std.specs.Prelude.{◌≡◌, ℕ, List, map, zip}
use Rattle.plan_tables.specs.{PlanView.PlanView, declared.devices.DeviceRow.DeviceRow}
use Rattle.device_objects.specs.{declared.device.Call.TheVariants.ModeStop, DeviceStep.device_step}
use Rattle.device_objects.specs.declared.state.{DeviceState.DeviceState, World.World}
use Rattle.written_machine.specs.Machine.{Machine, world_of}

-- the state of a device of this row, after it was told that its mode stops
abbrev pub stopped_state : ℕ → World → DeviceRow → DeviceState → DeviceState
stopped_state moment world row state = (device_step row.settings ModeStop moment world state).0

-- the states of the machine's devices, after each was told, at the moment of the latest stimulus, that its mode stops
abbrev pub stopped_states : PlanView → Machine → List DeviceState
stopped_states plan s = map (λ d. stopped_state s.moment (world_of s) d.0 d.1) (zip plan.rows s.devices)

-- the devices are those of the rows, one for each, and each has stopped
pub record AreStopped (plan : PlanView) (s : Machine) (rows : List DeviceRow) (states : List DeviceState) : Type 0 where
  pub rows_are : rows ≡ plan.rows
  pub states_are : states ≡ stopped_states plan s
