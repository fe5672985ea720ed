use Rattle.std.proofs.Common.{map, refl, subst, ◌∙◌}
use Rattle.plan_tables.specs.declared.table.Table.TheVariants.{Events}
use Rattle.plan_parts.specs.{RowViews.names_view, View.pieces_text}
use Rattle.mpf_plan.specs.{ByNumber.event_of, Drafting.{IsNumbered, Notes, names_uses}}
use Rattle.mpf_plan.proofs.{Grown.map_map, Entered.adds_switch}
use Rattle.mpf_plan.proofs.fill.add_switch.Goals as goal

pub returns : goal.returns
returns c =
    let a = c.args.draft.now in
    let parts = c.args.parts.now in
    let n1 = c.note_switch.new.names in
    let n2 = c.note_events.new.names in
    let n3 = c.note_events-2.new.names in
    let on = c.in_ok-active.active.items in
    let off = c.in_ok-inactive.inactive.items in
    adds_switch a (record a { names = n3; switches = c.enter_switch.new.switches }) n1 n2 c.note_switch.new.switches
    c.in_ok-number.number c.args.name.now c.args.kind c.args.confirms_playfield
    (names_view parts.active.items) (names_view parts.inactive.items) on off
    c.in_ok-number.ensures.names c.in_ok-number.ensures.number
    (subst (λ xs. Notes n1 n2 (names_uses Events xs)) c.deref.ensures.value c.in_ok-active.ensures.names)
    (λ us are within. subst (λ xs. IsNumbered n1 (names_uses Events xs)
    (λ ns. map (λ e. event_of (ns Events) (pieces_text e)) xs) on) c.deref.ensures.value
    c.in_ok-active.ensures.numbers us are within
    ∙ map_map _ pieces_text _ (λ e. refl) parts.active.items)
    (subst (λ xs. Notes n2 n3 (names_uses Events xs)) c.deref-2.ensures.value c.in_ok-inactive.ensures.names)
    (λ us are within. subst (λ xs. IsNumbered n2 (names_uses Events xs)
    (λ ns. map (λ e. event_of (ns Events) (pieces_text e)) xs) off) c.deref-2.ensures.value
    c.in_ok-inactive.ensures.numbers us are within
    ∙ map_map _ pieces_text _ (λ e. refl) parts.inactive.items)
    c.enter_switch.ensures.0 c.enter_switch.ensures.1 refl
    (record { modes = refl; game = refl; lists = refl; bindings = refl; rows = refl; row_lists = refl })
