use Rattle.std.proofs.Common.{◌≡◌, drop}
use Rattle.written_machine.specs.Machine.{all_do, post_game}
use Rattle.machine_core.specs.Core.{after}
use Rattle.machine_core.proofs.game_steps.post_game.Given as goal

-- what is left to post, posted now, is all, posted at the start
abbrev pub invariant-loop-event : goal.invariant-loop-event
invariant-loop-event g l = after (all_do (post_game l.core.plan) (drop l.event-index l.events)) l.core
    ≡ after (all_do (post_game l.fn.core.plan) l.events) l.fn.core
