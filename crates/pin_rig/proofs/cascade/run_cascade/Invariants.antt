use Rattle.std.proofs.Common.{◌≡◌, ℕ, ◌-◌, length}
use Rattle.written_machine.specs.PlanOrder.{plan_steps}
use Rattle.machine_core.specs.Core.{CanCall, follow}
use Rattle.coil_driver.specs.Driver.{IsServed}
use Rattle.pin_rig.proofs.cascade.run_cascade.Given as goal

-- so many event steps were taken, and the commands of their lines were sent, up to one that was not taken
abbrev pub invariant-loop-place : goal.invariant-loop-place
invariant-loop-place g l = record {
  count : ℕ;
  steps : l.core ≡ follow (plan_steps l.fn.core.plan count) l.fn.core;
  calls : CanCall l.core;
  served : IsServed l.core.machine.lines l.place l.fn.driver l.driver;
  coils : length l.driver.guard ≡ length l.fn.driver.guard;
}

-- each gives a line
abbrev pub decreases-loop-place : goal.decreases-loop-place
decreases-loop-place g l = l.core.room - length l.core.machine.lines
