use Rattle.std.proofs.Common.{◌≡◌}
use Rattle.machine_core.proofs.Draining.{save_from}
use Rattle.machine_core.proofs.drains.first_active_save.Given as goal

-- the first of those that are left is the first of all
abbrev pub invariant-loop-number : goal.invariant-loop-number
invariant-loop-number g l = save_from l.core.plan l.core.machine l.number ≡ save_from l.core.plan l.core.machine 0
