use Rattle.std.proofs.Common.{◌≡◌, drop}
use Rattle.written_machine.specs.Machine.{do_answer_by}
use Rattle.machine_core.specs.Core.{CanCall, after}
use Rattle.machine_core.proofs.lists.lists_by.Given as goal

-- what is left to run, run now, is all, run at the start
abbrev pub invariant-loop-list : goal.invariant-loop-list
invariant-loop-list g l = (after (do_answer_by l.core.plan (g.T.Tells.tell l.core.plan) l.row
    (drop l.list-index l.lists)) l.core ≡ after
    (do_answer_by l.fn.core.plan (g.T.Tells.tell l.fn.core.plan) l.row l.lists) l.fn.core) × CanCall l.core
