use Rattle.std.proofs.{Common.{◌≡◌, Some, slice_get, sym, ap, ◌∙◌}, lemmas.Option.slice_get-get_or}
use Rattle.device_objects.specs.Slots.{slot_in_use, current}
use Rattle.slotted_devices.proofs.SeenSlots.{seen-step}
use Rattle.slotted_devices.proofs.slotted.act_step.Goals as goal

pub returns-in-Some-clause-slots : goal.returns-in-Some-clause-slots
returns-in-Some-clause-slots g c =
    let m = g.K.SlotKind.model c.args.kind.now in
    let at : slot_in_use m.persist c.args.world ≡ Some c.in-Some.i =
    sym (c.slot_in_use.ensures ∙ ap (λ p. slot_in_use p c.args.world) c.persists.ensures) ∙ c.in-Some.is in
    let here : slice_get c.args.slots.now c.in-Some.i ≡ Some c.index-slots-i.result =
    slice_get-get_or c.args.slots.now c.in-Some.i c.index-slots-i.result c.if-i-slots.true
    ∙ ap Some (sym c.index-slots-i.is) in
    (seen-step g.K.SlotKind.slot_view (λ slot. m.step c.args.act c.args.now (current m c.args.world slot))
    c.args.slots.now c.step-lists.new.slot c.step-lists.result.items at here
    (c.step-lists.ensures.slot ∙ ap (λ slot. (m.step c.args.act c.args.now slot).0) c.current-slot.ensures)
    (c.step-lists.ensures.outcome ∙ ap (λ slot. (m.step c.args.act c.args.now slot).1) c.current-slot.ensures)).0

pub returns-in-Some-clause-outcome : goal.returns-in-Some-clause-outcome
returns-in-Some-clause-outcome g c =
    let m = g.K.SlotKind.model c.args.kind.now in
    let at : slot_in_use m.persist c.args.world ≡ Some c.in-Some.i =
    sym (c.slot_in_use.ensures ∙ ap (λ p. slot_in_use p c.args.world) c.persists.ensures) ∙ c.in-Some.is in
    let here : slice_get c.args.slots.now c.in-Some.i ≡ Some c.index-slots-i.result =
    slice_get-get_or c.args.slots.now c.in-Some.i c.index-slots-i.result c.if-i-slots.true
    ∙ ap Some (sym c.index-slots-i.is) in
    (seen-step g.K.SlotKind.slot_view (λ slot. m.step c.args.act c.args.now (current m c.args.world slot))
    c.args.slots.now c.step-lists.new.slot c.step-lists.result.items at here
    (c.step-lists.ensures.slot ∙ ap (λ slot. (m.step c.args.act c.args.now slot).0) c.current-slot.ensures)
    (c.step-lists.ensures.outcome ∙ ap (λ slot. (m.step c.args.act c.args.now slot).1) c.current-slot.ensures)).1
