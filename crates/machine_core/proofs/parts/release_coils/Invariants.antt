use Rattle.std.proofs.Common.{◌-◌, length}
use Rattle.machine_core.proofs.Releasing.{IsReleasing}
use Rattle.machine_core.proofs.parts.release_coils.Given as goal

-- what is left to turn off, turned off now, is all, turned off at the start
abbrev pub invariant-loop-command : goal.invariant-loop-command
invariant-loop-command g l = IsReleasing l.fn.core.plan l.owner l.fn.core l.core

-- each gives a line
abbrev pub decreases-loop-command : goal.decreases-loop-command
decreases-loop-command g l = l.core.room - length l.core.machine.lines
