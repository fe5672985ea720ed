-- For whom a coil is held.
use Rattle.std.specs.Prelude.{Bool, false, Option, None, Some}
use Rattle.plan_tables.specs.{PlanView.is_owner, declared.entries.Owner.Owner}

-- whether it is this owner, if there is one
abbrev pub is_holder : Owner → Option Owner → Bool
is_holder owner None = false
is_holder owner (Some holder) = is_owner holder owner
