-- Of which kind a row is.
use Rattle.plan_tables.specs.declared.devices.Settings.{Settings}
use Rattle.plan_tables.specs.declared.devices.Settings.TheVariants as kinds

abbrev pub IsFlipper : Settings → Type 0
IsFlipper kinds.Flipper = Unit {0}
IsFlipper _ = ⊥

abbrev pub IsAutofire : Settings → Type 0
IsAutofire kinds.Autofire = Unit {0}
IsAutofire _ = ⊥
