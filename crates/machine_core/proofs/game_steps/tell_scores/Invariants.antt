use Rattle.std.{proofs.Common.{◌≡◌, ◌+◌, ◌-◌, length}, specs.List.range_with_len}
use Rattle.written_machine.specs.Machine.{all_do, write_final}
use Rattle.machine_core.specs.Core.{after}
use Rattle.machine_core.proofs.game_steps.tell_scores.Given as goal

-- the scores that are left, told now, are all, told at the start
abbrev pub invariant-loop-place : goal.invariant-loop-place
invariant-loop-place g l =
    (after (all_do (write_final l.core.plan) (range_with_len (l.place + 1) (l.place-end - l.place))) l.core
    ≡ after (all_do (write_final l.fn.core.plan) (range_with_len 1 (length l.fn.core.machine.players.players)))
    l.fn.core)
    × (length l.core.machine.players.players ≡ l.place-end)
