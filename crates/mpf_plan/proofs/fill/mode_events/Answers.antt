use Rattle.std.proofs.Common.{[], ◌∷◌, subst}
use Rattle.plan_tables.specs.declared.table.Table.TheVariants.{Events}
use Rattle.plan_tables.specs.declared.entries.ModeEvent.TheVariants.{WillStart, Starting, Started, Stopping, Stopped}
use Rattle.plan_parts.specs.Effects.{mode_event_name}
use Rattle.mpf_plan.{specs.{ByNumber.event_of, Drafting.{IsNumbered, Notes}}, proofs.Ruled.{five_notes, five_numbers}}
use Rattle.mpf_plan.proofs.fill.mode_events.Goals as goal

pub returns-clause-names : goal.returns-clause-names
returns-clause-names c =
    let a = c.args.names.now in
    let n = c.args.name.now in
    let b1 = c.note_event.new.names in
    let b2 = c.note_event-2.new.names in
    let b3 = c.note_event-3.new.names in
    let b4 = c.note_event-4.new.names in
    let b5 = c.note_event-5.new.names in
    five_notes a b1 b2 b3 b4 b5
    (mode_event_name WillStart n) (mode_event_name Starting n) (mode_event_name Started n) (mode_event_name Stopping n)
    (mode_event_name Stopped n)
    (subst (λ e. Notes a b1 ((Events, e) ∷ [])) c.mode_event_name.ensures c.in_ok-will_start.ensures.names)
    (subst (λ e. Notes b1 b2 ((Events, e) ∷ [])) c.mode_event_name-2.ensures c.in_ok-starting.ensures.names)
    (subst (λ e. Notes b2 b3 ((Events, e) ∷ [])) c.mode_event_name-3.ensures c.in_ok-started.ensures.names)
    (subst (λ e. Notes b3 b4 ((Events, e) ∷ [])) c.mode_event_name-4.ensures c.in_ok-stopping.ensures.names)
    (subst (λ e. Notes b4 b5 ((Events, e) ∷ [])) c.mode_event_name-5.ensures c.in_ok-stopped.ensures.names)

pub returns-clause-events : goal.returns-clause-events
returns-clause-events c =
    let a = c.args.names.now in
    let n = c.args.name.now in
    let b1 = c.note_event.new.names in
    let b2 = c.note_event-2.new.names in
    let b3 = c.note_event-3.new.names in
    let b4 = c.note_event-4.new.names in
    let b5 = c.note_event-5.new.names in
    five_numbers a b1 b2 b3 b4 b5
    (mode_event_name WillStart n) (mode_event_name Starting n) (mode_event_name Started n) (mode_event_name Stopping n)
    (mode_event_name Stopped n)
    (subst (λ e. Notes a b1 ((Events, e) ∷ [])) c.mode_event_name.ensures c.in_ok-will_start.ensures.names)
    (subst (λ e. Notes b1 b2 ((Events, e) ∷ [])) c.mode_event_name-2.ensures c.in_ok-starting.ensures.names)
    (subst (λ e. Notes b2 b3 ((Events, e) ∷ [])) c.mode_event_name-3.ensures c.in_ok-started.ensures.names)
    (subst (λ e. Notes b3 b4 ((Events, e) ∷ [])) c.mode_event_name-4.ensures c.in_ok-stopping.ensures.names)
    (subst (λ e. Notes b4 b5 ((Events, e) ∷ [])) c.mode_event_name-5.ensures c.in_ok-stopped.ensures.names)
    c.in_ok-will_start.will_start c.in_ok-starting.starting c.in_ok-started.started c.in_ok-stopping.stopping
    c.in_ok-stopped.stopped
    (subst (λ e. IsNumbered a ((Events, e) ∷ []) (λ ns. event_of (ns Events) e) c.in_ok-will_start.will_start)
    c.mode_event_name.ensures c.in_ok-will_start.ensures.number)
    (subst (λ e. IsNumbered b1 ((Events, e) ∷ []) (λ ns. event_of (ns Events) e) c.in_ok-starting.starting)
    c.mode_event_name-2.ensures c.in_ok-starting.ensures.number)
    (subst (λ e. IsNumbered b2 ((Events, e) ∷ []) (λ ns. event_of (ns Events) e) c.in_ok-started.started)
    c.mode_event_name-3.ensures c.in_ok-started.ensures.number)
    (subst (λ e. IsNumbered b3 ((Events, e) ∷ []) (λ ns. event_of (ns Events) e) c.in_ok-stopping.stopping)
    c.mode_event_name-4.ensures c.in_ok-stopping.ensures.number)
    (subst (λ e. IsNumbered b4 ((Events, e) ∷ []) (λ ns. event_of (ns Events) e) c.in_ok-stopped.stopped)
    c.mode_event_name-5.ensures c.in_ok-stopped.ensures.number)
