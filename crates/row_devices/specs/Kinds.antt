-- Which rows have a device.
use Rattle.plan_tables.specs.{declared.devices.Settings.Settings, Devices.IsWithinLimits}
use Rattle.plan_tables.specs.declared.devices.Settings.TheVariants as kinds

-- All have one, but for a bank of more shots or states than a plan can have.
abbrev pub HasDevice : Settings → Type 0
HasDevice (kinds.Bank b) = IsWithinLimits (kinds.Bank b)
HasDevice _ = Unit {0}
