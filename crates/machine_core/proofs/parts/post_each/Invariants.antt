use Rattle.std.proofs.Common.{◌≡◌, drop}
use Rattle.written_machine.specs.Machine.{all_do, post}
use Rattle.machine_core.specs.Core.{after}
use Rattle.machine_core.proofs.parts.post_each.Given as goal

-- what is left to post, posted now, is all, posted at the start
abbrev pub invariant-loop-event : goal.invariant-loop-event
invariant-loop-event g l = after (all_do (post l.owner) (drop l.event-index l.events)) l.core
    ≡ after (all_do (post l.owner) l.events) l.fn.core
