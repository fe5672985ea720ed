use Rattle.std.proofs.Common.{◌<◌, ◌≡◌, length, take, sym, subst, refl, ◌∙◌, arith}
use Rattle.std.proofs.lemmas.List.{length-map, length-take-le, map_more}
use Rattle.plan_parts.specs.RowViews.{bytes_view}
use Rattle.mpf_plan.specs.Drafting.{AddsListeners, ListensTo}
use Rattle.mpf_plan.proofs.{Acts.views_all, Heard.{listeners_none, listeners_next}}
use Rattle.mpf_plan.proofs.fill.add_listeners.Goals as goal

pub loop-switch-init : goal.loop-switch-init
loop-switch-init c = listeners_none c.args.draft.now c.args.row

pub loop-switch-preserved : goal.loop-switch-preserved
loop-switch-preserved c =
    let l = c.loop-switch in
    let a = c.args.draft.now in
    let listens = c.args.listens.now in
    let within : l.switch < length listens = omega arith in
    let count : length (bytes_view (take l.switch listens)) ≡ l.switch = length-map (take l.switch listens) _
    ∙ length-take-le l.switch listens (omega (arith, within)) in
    let next = record l.draft { names = c.note_switch.new.names; switches = c.add_listener.new.switches } in
    subst (AddsListeners a next c.args.row) (sym (map_more _ listens l.switch _ within))
    (listeners_next a l.draft next c.args.row (bytes_view (take l.switch listens)) _ c.note_switch.new.switches
    c.in_ok-number.number
    l.invariant c.in_ok-number.ensures.names c.in_ok-number.ensures.number
    (subst (λ n. ListensTo c.note_switch.new.switches c.add_listener.new.switches c.in_ok-number.number
    (record { row = c.args.row; switch = n })) (sym count) c.in_ok-add_listener.ensures)
    refl refl refl refl refl refl refl)

pub returns : goal.returns
returns c =
    let l = c.loop-switch in
    subst (AddsListeners c.args.draft.now l.draft c.args.row) (views_all _ c.args.listens.now l.switch (omega arith))
    l.invariant
