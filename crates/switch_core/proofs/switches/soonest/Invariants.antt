use Rattle.std.proofs.Common.{◌≡◌, Some, drop}
use Rattle.plan_tables.specs.Due.{sooner}
use Rattle.switch_core.specs.PendingSwitches.{soonest}
use Rattle.switch_core.proofs.switches.soonest.Given as goal

-- The soonest is the sooner of what was found so far and of the soonest of the rest.
abbrev pub invariant-loop-due : goal.invariant-loop-due
invariant-loop-due l = sooner (Some l.next) (soonest (drop l.due-index l.rest)) ≡ soonest l.waiting
