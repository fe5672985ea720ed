use Rattle.std.proofs.Common.{◌≡◌, map, slice_set, ap, subst, ◌∙◌}
use Rattle.switch_core.specs.{StateView.state_view, PendingSwitches.soonest}
use Rattle.switch_core.specs.Switches.{SwitchesView, after_change, reported_by_change}
use Rattle.switch_core.proofs.Lists.{lists_view, view-in_kinds, view-in_states, same-moment, kept-waits, kept-set}
use Rattle.switch_core.proofs.Lists.{kept-same, change-set, change-answer}
use Rattle.switch_core.proofs.switches.Switches.change.Goals as goal
use Rattle.switch_core.proofs.switches.Switches.change.Goals.{then-ne, else-ne}

pub set_due-requires : goal.set_due-requires
set_due-requires c =
    let kinds = c.self.inside.kinds.items in
    let states = c.self.inside.states.items in (
      map state_view states,
      kept-waits kinds states c.args.switch c.index-kind.result.now c.index.result.now c.change_level-new.result
          (view-in_kinds kinds states c.args.self.now c.self.view_is c.args.switch c.requires.switch)
          (view-in_states kinds states c.args.self.now c.self.view_is c.args.switch c.requires.switch
          c.self.invariant.complete)
          c.index-kind.ensures c.index.ensures c.self.inside.next c.self.inside.waiting c.self.invariant,
      c.self.invariant.room,
    )

-- The due moment is another one.
pub invariant_of-self : goal.invariant_of-self
invariant_of-self c =
    let kinds = c.self.inside.kinds.items in
    let states = c.self.inside.states.items in
    kept-set kinds states c.args.switch c.index-kind.result.now c.index.result.now c.change_level-new.result
    (view-in_kinds kinds states c.args.self.now c.self.view_is c.args.switch c.requires.switch)
    (view-in_states kinds states c.args.self.now c.self.view_is c.args.switch c.requires.switch
    c.self.invariant.complete)
    c.index-kind.ensures c.index.ensures c.self.inside.next c.self.inside.waiting c.self.invariant
    c.soonest-self-inside.result c.set_due.new.waiting c.set_due.ensures.items c.set_due.ensures.capacity
    (c.soonest-self-inside.ensures ∙ ap soonest c.deref.ensures.value)

-- The due moment is the same.
pub invariant_of-self-else-ne : goal.invariant_of-self-else-ne
invariant_of-self-else-ne c =
    let kinds = c.self.inside.kinds.items in
    let states = c.self.inside.states.items in
    kept-same kinds states c.args.switch c.index-kind.result.now c.index.result.now c.change_level-new.result
    (view-in_kinds kinds states c.args.self.now c.self.view_is c.args.switch c.requires.switch)
    (view-in_states kinds states c.args.self.now c.self.view_is c.args.switch c.requires.switch
    c.self.invariant.complete)
    c.index-kind.ensures c.index.ensures c.self.inside.next c.self.inside.waiting c.self.invariant
    (same-moment c.change_level-new.result.due c.index.result.now.due c.ne.result c.ne.ensures c.if-ne.false)

changed-is : (c : goal.After-then_some) → lists_view c.self.inside.kinds.items
    (slice_set c.self.inside.states.items c.args.switch.0 c.change_level-new.result)
    ≡ after_change c.args.switch c.args.level c.args.now c.args.self.now
changed-is c =
    subst (λ (s : SwitchesView). lists_view c.self.inside.kinds.items
    (slice_set c.self.inside.states.items c.args.switch.0 c.change_level-new.result)
    ≡ after_change c.args.switch c.args.level c.args.now s) c.self.view_is
    (change-set c.self.inside.kinds.items c.self.inside.states.items c.args.switch c.index-kind.result.now
    c.index.result.now c.change_level-new.result
    (view-in_kinds c.self.inside.kinds.items c.self.inside.states.items c.args.self.now c.self.view_is c.args.switch
    c.requires.switch)
    (view-in_states c.self.inside.kinds.items c.self.inside.states.items c.args.self.now c.self.view_is c.args.switch
    c.requires.switch c.self.invariant.complete)
    c.index-kind.ensures c.index.ensures c.args.level c.args.now c.change_level-new.ensures)

pub returns-clause-state : goal.returns-clause-state
returns-clause-state c = elim c.if-ne.branch
    [ then-ne w ↦ w.self-is ∙ changed-is c | else-ne w ↦ w.self-is ∙ changed-is c ]

pub returns-clause-reports : goal.returns-clause-reports
returns-clause-reports c =
    subst (λ (s : SwitchesView). c.then_some.result ≡ reported_by_change c.args.switch c.args.level c.args.now s)
    c.self.view_is
    (c.then_some.ensures
    ∙ change-answer c.self.inside.kinds.items c.self.inside.states.items c.args.switch c.index-kind.result.now
    c.index.result.now c.change_level-new.result
    (view-in_kinds c.self.inside.kinds.items c.self.inside.states.items c.args.self.now c.self.view_is c.args.switch
    c.requires.switch)
    (view-in_states c.self.inside.kinds.items c.self.inside.states.items c.args.self.now c.self.view_is c.args.switch
    c.requires.switch c.self.invariant.complete)
    c.index-kind.ensures c.index.ensures c.args.level c.args.now
    c.takes.result c.change_level-new.ensures c.takes.ensures)
