-- Devices whose state is slots, whatever their kind.
use Rattle.std.specs.Prelude.{◌≡◌, ℕ, None, List}
use Rattle.plan_tables.specs.declared.devices.Settings.{Settings}
use Rattle.device_objects.specs.declared.{device.Call.Call, state.{DeviceState.DeviceState, World.World}}
use Rattle.device_objects.specs.DeviceStep.{device_step, due_of, first_state}
use Rattle.device_objects.specs.Slots.{SlotModel, first_slots, slots_step}

-- what a step of slots gives, with the state that has these slots
abbrev pub with_state : {S : Type 0} → (List S → DeviceState) → List S × List ℕ → DeviceState × List ℕ
with_state state_of answer = (state_of answer.0, answer.1)

-- The state of a device with these settings is slots, and each call is a step of them.
pub record StepsAreOfSlots {S : Type 0} (settings : Settings) (state_of : List S → DeviceState) (m : SlotModel S) : Type
    0 where
  pub first : first_state settings ≡ state_of (first_slots m)
  pub never_due : (slots : List S) → due_of (state_of slots) ≡ None
  pub step : (call : Call) (now : ℕ) (world : World) (slots : List S)
      → device_step settings call now world (state_of slots) ≡ with_state state_of (slots_step m call now world slots)
