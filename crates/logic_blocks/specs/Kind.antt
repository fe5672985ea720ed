-- Of which kind a row is.
use Rattle.plan_tables.specs.declared.devices.Settings.{Settings}
use Rattle.plan_tables.specs.declared.devices.Settings.TheVariants as kinds

abbrev pub IsCounter : Settings → Type 0
IsCounter (kinds.Counter c) = Unit {0}
IsCounter _ = ⊥

abbrev pub IsAccrual : Settings → Type 0
IsAccrual (kinds.Accrual a) = Unit {0}
IsAccrual _ = ⊥

abbrev pub IsSequence : Settings → Type 0
IsSequence (kinds.Sequence q) = Unit {0}
IsSequence _ = ⊥

abbrev pub IsTimer : Settings → Type 0
IsTimer (kinds.Timer t) = Unit {0}
IsTimer _ = ⊥
