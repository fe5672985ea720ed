use Rattle.std.proofs.{Common.{◌+◌, drop, get_or}, lemmas.List.drop_more}
use Rattle.plan_tables.specs.declared.entries.EventId.{EventId}
use Rattle.written_machine.specs.Machine.{all_do, post}
use Rattle.machine_core.{specs.Core.after, proofs.Room.post-room}
use Rattle.machine_core.proofs.parts.post_each.Goals as goal

none : EventId
none = record { 0 = 0 }

pub post-requires : goal.post-requires
unfolding none
post-requires g c =
    let events = c.args.events.now in
    let i = c.loop-event.event-index in
    post-room c.args.owner c.loop-event.core (after (all_do (post c.args.owner) events) c.args.core.now)
    (get_or events i none) (drop (i + 1) events) (drop i events)
    (drop_more events i none c.loop-event-test.true) c.loop-event.invariant c.requires
