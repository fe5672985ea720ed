-- What ball devices are told.
use Rattle.std.specs.Prelude.{ℕ}
use Rattle.plan_tables.specs.{Valid.IsTargetThere, declared.devices.Telling.{Telling, TheVariants.{Arrived, Wanted}}}

-- when a ball has arrived, its target is the playfield, or one of so many rows
abbrev pub IsTellingWithin : ℕ → Telling → Type 0
IsTellingWithin rows (Arrived target) = IsTargetThere rows target
IsTellingWithin rows (Wanted n) = Unit {0}
