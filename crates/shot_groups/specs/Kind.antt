-- Which rows are banks of shots that a plan can have: at most 16 shots, with at most 16 states.
use Rattle.plan_tables.specs.{declared.devices.Settings.Settings, Devices.IsWithinLimits}
use Rattle.plan_tables.specs.declared.devices.Settings.TheVariants as kinds

abbrev pub IsBank : Settings → Type 0
IsBank (kinds.Bank b) = IsWithinLimits (kinds.Bank b)
IsBank _ = ⊥
