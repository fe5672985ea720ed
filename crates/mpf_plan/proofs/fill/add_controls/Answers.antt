use Rattle.std.proofs.Common.{[], ◌∷◌, take, sym, subst, map, ap}
use Rattle.plan_tables.specs.declared.entries.Target.{Target}
use Rattle.plan_parts.specs.RowViews.{control_part, control_parts, controls_view, handled_event_view, whose_view}
use Rattle.mpf_plan.specs.Drafting.{Adds, AddsBinding}
use Rattle.mpf_plan.proofs.{Grown.{adds_none, adds_more}, Acts.{adds_control, made_item, views_all}}
use Rattle.mpf_plan.proofs.fill.add_controls.Goals as goal

pub loop-each-init : goal.loop-each-init
loop-each-init c = adds_none c.args.draft.now

pub loop-each-preserved : goal.loop-each-preserved
loop-each-preserved c =
    let l = c.loop-each in
    let a = c.args.draft.now in
    let whose = whose_view c.args.whose in
    subst (Adds a c.add_binding.new.draft)
    (sym (made_item (λ h. (handled_event_view h.0, h.1)) (control_part whose c.args.number) c.args.controls.now
    l.each-index c.each-item.result c.loop-each-test.true c.each-item.is))
    (adds_more a l.draft c.add_binding.new.draft
    (control_parts whose c.args.number (controls_view (take l.each-index c.args.controls.now)))
    (control_part whose c.args.number (handled_event_view c.each-item.result.0, c.each-item.result.1) ∷ [])
    l.invariant
    (adds_control l.draft c.add_binding.new.draft whose c.args.number (handled_event_view c.each-item.result.0)
    c.each-item.result.1
    (subst (λ (t : Target). AddsBinding l.draft c.add_binding.new.draft whose (handled_event_view c.each-item.result.0)
    t) c.control_target-target.ensures c.in_ok-add_binding.ensures)))

pub returns : goal.returns
returns c =
    let l = c.loop-each in
    subst (Adds c.args.draft.now l.draft) (ap (map (control_part (whose_view c.args.whose) c.args.number))
    (views_all (λ h. (handled_event_view h.0, h.1)) c.args.controls.now l.each-index c.loop-each-test.false))
    l.invariant
