use Rattle.std.proofs.Common.{rules, ◌∙◌}
use Rattle.plan_tables.specs.declared.table.Table.TheVariants.{Events}
use Rattle.plan_parts.specs.View.{pieces_text}
use Rattle.mpf_plan.proofs.Numbered.{event_stays}
use Rattle.mpf_plan.proofs.Noted.{event_in, notes_all, notes_at, notes_none, numbers_all, numbers_at, use_in}
use Rattle.mpf_plan.proofs.numbering.note_events.Goals as goal

pub loop-event-init : goal.loop-event-init
loop-event-init c = record { names = notes_none c.args.names.now; numbers = λ us are within. search rules }

pub loop-event-preserved : goal.loop-event-preserved
loop-event-preserved c =
    let l = c.loop-event in
    let a = c.args.names.now in
    record {
      names = notes_at (use_in Events) c.args.events.now l.event-index _ c.loop-event-test.true a l.names
          c.note_event.new.names
          l.invariant.names c.in_ok-note_event.ensures.names;
      numbers = λ us are within. c.in_ok-push.ensures.items
          ∙ numbers_at (use_in Events) c.args.events.now l.event-index _ c.loop-event-test.true event_in
          (λ n. event_stays (pieces_text n)) a l.names l.numbers.items c.in_ok-note_event.field-0
          l.invariant.names l.invariant.numbers c.in_ok-note_event.ensures.number us are within;
    }

pub returns-clause-names : goal.returns-clause-names
returns-clause-names c =
    notes_all c.args.names.now c.loop-event.names c.args.events.now c.loop-event.event-index c.loop-event-test.false
    Events c.loop-event.invariant.names

pub returns-clause-numbers : goal.returns-clause-numbers
returns-clause-numbers c =
    numbers_all c.args.names.now c.loop-event.names c.args.events.now c.loop-event.event-index c.loop-event-test.false
    c.loop-event.numbers.items c.loop-event.invariant.numbers
