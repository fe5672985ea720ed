use Rattle.std.proofs.Common.{◌≡◌, ℕ, ◌-◌, length}
use Rattle.written_machine.specs.PlanOrder.{plan_steps}
use Rattle.machine_core.specs.Core.{CanCall, follow}
use Rattle.machine_core.proofs.parts.settle.Given as goal

-- so many event steps in plan order were taken
abbrev pub invariant-loop : goal.invariant-loop
invariant-loop g l = (count : ℕ) × (l.core ≡ follow (plan_steps l.fn.core.plan count) l.fn.core) × CanCall l.core

-- each gives a line
abbrev pub decreases-loop : goal.decreases-loop
decreases-loop g l = l.core.room - length l.core.machine.lines
