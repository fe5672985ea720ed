-- What a device remembers at first, and what is done with it.
use Rattle.std.specs.Prelude.{◌≡◌, ℕ, false, IfSome, Option, List}
use Rattle.plan_tables.specs.declared.devices.Settings.{Settings}
use Rattle.device_objects.specs.declared.{device.Call.Call, state.{World.World, DeviceState.DeviceState}}
use Rattle.device_objects.specs.{Kinds.{kind_of, moments_of}, BallSave.save_state, Multiball.multiball_state}

-- the state at first
abbrev pub first_state : Settings → DeviceState
first_state settings = (kind_of settings).first

-- The next state, and the numbers of the effect lists that are to run, in order.
abbrev pub device_step : Settings → Call → ℕ → World → DeviceState → DeviceState × List ℕ
device_step settings call now world state = (kind_of settings).step call now world state

-- each sequence of lists that some state answers to the call
abbrev pub outcomes : Settings → Call → List (List ℕ)
outcomes settings call = (kind_of settings).outcomes call

-- what a part does when its moment has come, by the part's number: a timer, for example, ticks
abbrev pub fire_part : Settings → ℕ → ℕ → DeviceState → DeviceState × List ℕ
fire_part settings k now state = (kind_of settings).fire_part k now state

-- the moment at which the device is due, if there is one
abbrev pub due_of : DeviceState → Option ℕ
due_of state = (moments_of state).due

-- the moment at which a part of the device is due, by the part's number
abbrev pub part_due : DeviceState → ℕ → Option ℕ
part_due state k = (moments_of state).part k

-- neither an active ball save nor a running multiball
abbrev pub IsInactive : DeviceState → Type 0
IsInactive state =
    IfSome (save_state state) (λ s. s.active ≡ false) × IfSome (multiball_state state) (λ s. s.running ≡ false)
