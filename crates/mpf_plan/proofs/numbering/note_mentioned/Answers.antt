use Rattle.plan_tables.specs.declared.table.Table.TheVariants.{Events}
use Rattle.mpf_plan.proofs.Noted.{notes_all, notes_at, notes_none, use_in}
use Rattle.mpf_plan.proofs.numbering.note_mentioned.Goals as goal

pub loop-event-init : goal.loop-event-init
loop-event-init c = notes_none c.args.names.now

pub loop-event-preserved : goal.loop-event-preserved
loop-event-preserved c =
    notes_at (use_in Events) c.args.events.now c.loop-event.event-index _ c.loop-event-test.true c.args.names.now
    c.loop-event.names c.note.new.names
    c.loop-event.invariant c.in_ok-note.ensures.names

pub returns : goal.returns
returns c =
    notes_all c.args.names.now c.loop-event.names c.args.events.now c.loop-event.event-index c.loop-event-test.false
    Events c.loop-event.invariant
