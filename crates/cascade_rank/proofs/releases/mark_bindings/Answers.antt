use Rattle.std.proofs.{Common.{rules, get_or, sym, subst, take_all}, lemmas.Option.get_or_from_slice_get}
use Rattle.plan_tables.specs.{declared.entries.Binding.Binding, PlanView.{actions_of_target, no_binding}}
use Rattle.cascade_rank.specs.Marks.{AreMarked}
use Rattle.cascade_rank.proofs.{Marked.{actions_at_place, marked-more, actions_of_bindings}, Places.binding-within}
use Rattle.cascade_rank.proofs.releases.mark_bindings.Goals as goal

pub binding-requires : goal.binding-requires
binding-requires c = c.bindings_of_mode-place-items.ensures.within c.loop-place.place-index (record { 0 = 0 })
    c.loop-place-test.true

pub mark_target-requires-clause-target : goal.mark_target-requires-clause-target
mark_target-requires-clause-target c = (binding-within c.args.plan.now c.binding.ensures.valid.entries _
    c.binding.result c.binding.ensures.binding).2

pub loop-place-preserved : goal.loop-place-preserved
loop-place-preserved c =
    let plan = c.args.plan.now in
    let places = c.bindings_of_mode-place-items.result.now in
    let i = c.loop-place.place-index in
    let here = get_or_from_slice_get plan.bindings (get_or places i (record { 0 = 0 })).0 c.binding.result no_binding
    c.binding.ensures.binding in
    marked-more (actions_at_place plan) places i (record { 0 = 0 }) c.args.marks.now c.loop-place.marks
    c.mark_target.new.marks c.loop-place-test.true c.loop-place.invariant
    (subst (λ (b : Binding). AreMarked c.loop-place.marks (actions_of_target plan b.target) c.mark_target.new.marks)
    (sym here) c.mark_target.ensures)

pub returns : goal.returns
returns c = search (rules, actions_at_place, take_all, actions_of_bindings)
