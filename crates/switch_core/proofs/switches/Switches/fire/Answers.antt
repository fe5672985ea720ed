use Rattle.std.proofs.Common.{◌≡◌, Some, map, slice_set, ap, subst, ◌∙◌, arith}
use Rattle.switch_core.{specs.{StateView.state_view, PendingSwitches.soonest}, proofs.Lists.{fire-set, fire-answer}}
use Rattle.switch_core.specs.Switches.{SwitchesView, after_fire, reported_by_fire}
use Rattle.switch_core.proofs.Lists.{lists_view, kept-next, kept-in_states, kept-in_kinds, kept-waits, kept-set}
use Rattle.switch_core.proofs.switches.Switches.fire.Goals as goal

pub index-old-requires : goal.index-old-requires
index-old-requires c =
    let h = kept-in_states c.self.inside.kinds.items c.self.inside.states.items c.self.inside.next c.self.inside.waiting
    c.self.invariant c.in-Some.field-0-0 c.in-Some.switch c.in-Some.is in
    omega (arith, h, c.self.inside.states.ok.0)

pub index-requires : goal.index-requires
index-requires c =
    let h = kept-in_kinds c.self.inside.kinds.items c.self.inside.states.items c.self.inside.next c.self.inside.waiting
    c.self.invariant c.in-Some.field-0-0 c.in-Some.switch c.in-Some.is in
    omega (arith, h, c.self.inside.kinds.ok.0)

pub index_mut-requires : goal.index_mut-requires
index_mut-requires c =
    let h = kept-in_states c.self.inside.kinds.items c.self.inside.states.items c.self.inside.next c.self.inside.waiting
    c.self.invariant c.in-Some.field-0-0 c.in-Some.switch c.in-Some.is in
    omega (arith, h, c.self.inside.states.ok.0)

pub set_due-requires : goal.set_due-requires
set_due-requires c =
    let kinds = c.self.inside.kinds.items in
    let states = c.self.inside.states.items in
    let in_kinds = kept-in_kinds kinds states c.self.inside.next c.self.inside.waiting c.self.invariant
    c.in-Some.field-0-0 c.in-Some.switch c.in-Some.is in
    let in_states = kept-in_states kinds states c.self.inside.next c.self.inside.waiting c.self.invariant
    c.in-Some.field-0-0 c.in-Some.switch c.in-Some.is in (
      map state_view states,
      kept-waits kinds states c.in-Some.switch c.index.result.now c.index-old.result.now c.fire_change-new_state.result
          in_kinds in_states c.index.ensures c.index-old.ensures c.self.inside.next c.self.inside.waiting
          c.self.invariant,
      c.self.invariant.room,
    )

pub invariant_of-self : goal.invariant_of-self
invariant_of-self c =
    let kinds = c.self.inside.kinds.items in
    let states = c.self.inside.states.items in
    let in_kinds = kept-in_kinds kinds states c.self.inside.next c.self.inside.waiting c.self.invariant
    c.in-Some.field-0-0 c.in-Some.switch c.in-Some.is in
    let in_states = kept-in_states kinds states c.self.inside.next c.self.inside.waiting c.self.invariant
    c.in-Some.field-0-0 c.in-Some.switch c.in-Some.is in
    kept-set kinds states c.in-Some.switch c.index.result.now c.index-old.result.now c.fire_change-new_state.result
    in_kinds in_states c.index.ensures c.index-old.ensures c.self.inside.next c.self.inside.waiting c.self.invariant
    c.soonest-self-inside.result c.set_due.new.waiting c.set_due.ensures.items c.set_due.ensures.capacity
    (c.soonest-self-inside.ensures ∙ ap soonest c.deref.ensures.value)

pub returns-clause-state : goal.returns-clause-state
returns-clause-state c =
    let kinds = c.self.inside.kinds.items in
    let states = c.self.inside.states.items in
    let in_kinds = kept-in_kinds kinds states c.self.inside.next c.self.inside.waiting c.self.invariant
    c.in-Some.field-0-0 c.in-Some.switch c.in-Some.is in
    let in_states = kept-in_states kinds states c.self.inside.next c.self.inside.waiting c.self.invariant
    c.in-Some.field-0-0 c.in-Some.switch c.in-Some.is in
    let next = kept-next kinds states c.self.inside.next c.self.inside.waiting c.self.invariant c.in-Some.field-0-0
    c.in-Some.switch c.in-Some.is in
    subst (λ (s : SwitchesView). lists_view kinds (slice_set states c.in-Some.switch.0 c.fire_change-new_state.result)
    ≡ after_fire s) c.self.view_is
    (fire-set kinds states c.in-Some.switch c.index.result.now c.index-old.result.now c.fire_change-new_state.result
    in_kinds in_states c.index.ensures c.index-old.ensures c.in-Some.field-0-0 next c.fire_change-new_state.ensures)

pub returns-clause-reports : goal.returns-clause-reports
returns-clause-reports c =
    let kinds = c.self.inside.kinds.items in
    let states = c.self.inside.states.items in
    let in_kinds = kept-in_kinds kinds states c.self.inside.next c.self.inside.waiting c.self.invariant
    c.in-Some.field-0-0 c.in-Some.switch c.in-Some.is in
    let in_states = kept-in_states kinds states c.self.inside.next c.self.inside.waiting c.self.invariant
    c.in-Some.field-0-0 c.in-Some.switch c.in-Some.is in
    let next = kept-next kinds states c.self.inside.next c.self.inside.waiting c.self.invariant c.in-Some.field-0-0
    c.in-Some.switch c.in-Some.is in
    subst (λ (s : SwitchesView). reported_by_fire s
    ≡ Some (record { switch = c.in-Some.switch; active = c.fire_change-new_state.result.active })) c.self.view_is
    (fire-answer kinds states c.in-Some.switch c.index.result.now c.index-old.result.now c.fire_change-new_state.result
    in_kinds in_states c.index.ensures c.index-old.ensures c.in-Some.field-0-0 next c.fire_change-new_state.ensures)
