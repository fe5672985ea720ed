use Rattle.std.proofs.Common.{◌≡◌, drop}
use Rattle.written_machine.specs.Machine.{all_do, tell_listener}
use Rattle.machine_core.specs.Core.{CanCall, after}
use Rattle.machine_core.proofs.parts.tell_listeners.Given as goal

-- the listeners that are left, told now, are all, told at the start
abbrev pub invariant-loop-listener : goal.invariant-loop-listener
invariant-loop-listener g l =
    (after (all_do (tell_listener l.core.plan l.active) (drop l.listener-index l.listeners)) l.core
    ≡ after (all_do (tell_listener l.fn.core.plan l.active) l.listeners) l.fn.core) × CanCall l.core
