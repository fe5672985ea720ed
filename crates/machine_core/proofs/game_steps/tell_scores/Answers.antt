use Rattle.std.{proofs.Common.{rules, ◌≡◌, ◌+◌, ◌-◌, ◌<◌, Bool, true, length, subst, arith}, specs.List.range_with_len}
use Rattle.written_machine.specs.Machine.{all_do, write_final, write_finals}
use Rattle.machine_core.{specs.Core.{IsWithin, after}, proofs.{Room.{all_do-first, final-room}, Playing.finals-first}}
use Rattle.machine_core.proofs.game_steps.tell_scores.Goals as goal

pub tell_score-requires-clause-room : goal.tell_score-requires-clause-room
tell_score-requires-clause-room g c =
    let plan = c.args.core.now.plan in
    let place = c.loop-place.place in
    let count = c.player_count-place-end.result in
    let players = range_with_len 1 (length c.args.core.now.machine.players.players) in
    let there : place < count = omega arith in
    let tells : c.args.tells ≡ true = search (rules, c.if-not-tells.false) in
    let room : IsWithin c.args.core.now.room (all_do (write_final plan) players c.args.core.now.machine) =
    subst (λ (b : Bool). IsWithin c.args.core.now.room (write_finals plan b c.args.core.now.machine)) tells c.requires
    in
    final-room c.loop-place.core (after (all_do (write_final plan) players) c.args.core.now) (place + 1)
    (range_with_len (place + 1 + 1) (count - (place + 1))) (range_with_len (place + 1) (count - place))
    (finals-first place count there) c.loop-place.invariant.0 room

pub loop-place-preserved : goal.loop-place-preserved
loop-place-preserved g c = search (rules, all_do-first, finals-first)
