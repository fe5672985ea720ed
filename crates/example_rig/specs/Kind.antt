-- Of which kind a row and a state are.
use Rattle.plan_tables.specs.declared.devices.Settings.{Settings}
use Rattle.plan_tables.specs.declared.devices.Settings.TheVariants as kinds
use Rattle.device_objects.specs.declared.state.DeviceState.{DeviceState}
use Rattle.device_objects.specs.declared.state.DeviceState.TheVariants as states

-- both are of an autofire coil
abbrev pub AreOfAutofire : Settings → DeviceState → Type 0
AreOfAutofire kinds.Autofire (states.Autofire s) = Unit {0}
AreOfAutofire _ _ = ⊥
