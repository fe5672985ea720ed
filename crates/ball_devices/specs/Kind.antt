-- Which rows are ball devices, ball saves and multiballs.
use Rattle.plan_tables.specs.declared.devices.Settings.{Settings}
use Rattle.plan_tables.specs.declared.devices.Settings.TheVariants as kinds

abbrev pub IsBallDevice : Settings → Type 0
IsBallDevice (kinds.BallDevice d) = Unit {0}
IsBallDevice _ = ⊥

abbrev pub IsBallSave : Settings → Type 0
IsBallSave (kinds.BallSave b) = Unit {0}
IsBallSave _ = ⊥

abbrev pub IsMultiball : Settings → Type 0
IsMultiball (kinds.Multiball m) = Unit {0}
IsMultiball _ = ⊥
