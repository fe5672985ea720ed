use Rattle.std.proofs.{Common.{rules, ◌+◌, drop, get_or}, lemmas.List.drop_more}
use Rattle.plan_tables.specs.declared.entries.GameEvent.TheVariants.{SwStart}
use Rattle.written_machine.specs.Machine.{all_do, post_game}
use Rattle.machine_core.{specs.Core.after, proofs.Room.{all_do-first, game-room}}
use Rattle.machine_core.proofs.game_steps.post_game.Goals as goal

pub post-requires : goal.post-requires
post-requires g c =
    let events = c.args.events.now in
    let i = c.loop-event.event-index in
    game-room c.loop-event.core (after (all_do (post_game c.args.core.now.plan) events) c.args.core.now)
    (get_or events i SwStart) (drop (i + 1) events) (drop i events)
    (drop_more events i SwStart c.loop-event-test.true) c.loop-event.invariant c.requires.room

pub loop-event-preserved : goal.loop-event-preserved
loop-event-preserved g c = search (rules, get_or, all_do-first, drop_more)
