use Rattle.std.proofs.Common.{take, sym, subst}
use Rattle.plan_parts.specs.RowViews.{acts_view, handled_event_view, whose_view}
use Rattle.mpf_plan.{specs.Drafting.AddsActs, proofs.Acts.{acts_none, acts_more, views_item, views_all}}
use Rattle.mpf_plan.proofs.fill.add_acts.Goals as goal

pub loop-each-init : goal.loop-each-init
loop-each-init c = acts_none c.args.draft.now (whose_view c.args.whose) c.args.row

pub loop-each-preserved : goal.loop-each-preserved
loop-each-preserved c =
    let l = c.loop-each in
    let a = c.args.draft.now in
    let whose = whose_view c.args.whose in
    subst (AddsActs a c.add_binding.new.draft whose c.args.row)
    (sym (views_item (λ h. (handled_event_view h.0, h.1)) c.args.event_acts.now l.each-index c.each-item.result
    c.loop-each-test.true c.each-item.is))
    (acts_more a l.draft c.add_binding.new.draft whose c.args.row (acts_view (take l.each-index c.args.event_acts.now))
    (handled_event_view c.each-item.result.0, c.each-item.result.1) l.invariant c.in_ok-add_binding.ensures)

pub returns : goal.returns
returns c =
    let l = c.loop-each in
    subst (AddsActs c.args.draft.now l.draft (whose_view c.args.whose) c.args.row)
    (views_all _ c.args.event_acts.now l.each-index c.loop-each-test.false) l.invariant
