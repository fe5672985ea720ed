use Rattle.std.proofs.Common.{◌≡◌, ◌-◌, length, drop}
use Rattle.mode_stack.specs.Modes.{running_of}
use Rattle.event_queue.specs.PlanOrder.{in_order}
use Rattle.written_machine.specs.Machine.{all_do, do_handler}
use Rattle.machine_core.specs.Core.{CanCall, after}
use Rattle.machine_core.proofs.parts.handle.Given as goal

-- what is left to run, run now, is all, run at the start
abbrev pub invariant-loop-place : goal.invariant-loop-place
invariant-loop-place g l =
    (after (all_do (do_handler l.core.plan)
    (drop l.k (in_order l.fn.core.plan (running_of l.fn.core.machine.modes) l.event))) l.core
    ≡ after (all_do (do_handler l.fn.core.plan) (in_order l.fn.core.plan (running_of l.fn.core.machine.modes) l.event))
    l.fn.core)
    × CanCall l.core

abbrev pub decreases-loop-place : goal.decreases-loop-place
decreases-loop-place g l = length (in_order l.fn.core.plan (running_of l.fn.core.machine.modes) l.event) - l.k
