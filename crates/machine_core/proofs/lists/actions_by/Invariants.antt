use Rattle.std.proofs.Common.{◌≡◌, drop}
use Rattle.written_machine.specs.Machine.{all_do, do_action_by}
use Rattle.machine_core.specs.Core.{CanCall, after}
use Rattle.machine_core.proofs.lists.actions_by.Given as goal

-- what is left to do, done now, is all, done at the start
abbrev pub invariant-loop-action : goal.invariant-loop-action
invariant-loop-action g l = (after (all_do (do_action_by l.core.plan (g.T.Tells.tell l.core.plan) l.owner)
    (drop l.action-index l.actions)) l.core
    ≡ after (all_do (do_action_by l.fn.core.plan (g.T.Tells.tell l.fn.core.plan) l.owner) l.actions) l.fn.core)
    × CanCall l.core
