use Rattle.std.proofs.{Common.{[], ◌∷◌, sym, subst}, lemmas.Result.on_ok_weaker}
use Rattle.mpf_sections.specs.View.{mode_settings_view}
use Rattle.plan_parts.specs.declared.row_parts.RowHead as heads
use Rattle.plan_parts.specs.{Parts.mode, RowViews.{acts_view, control_parts, controls_view, parts_by, whose_view}}
use Rattle.mpf_plan.{specs.Drafting.{Adds, seated_parts}, proofs.Grown.adds_more}
use Rattle.mpf_plan.proofs.fill.add_head.Goals as goal

pub returns-in_ok-add_mode-in-Mode : goal.returns-in_ok-add_mode-in-Mode
returns-in_ok-add_mode-in-Mode c =
    let a = c.args.draft.now in
    let b = c.add_mode.new.draft in
    let e = c.add_controls.new.draft in
    let r = c.args.parts.now in
    let whose = whose_view r.whose in
    let m = c.in-Mode.number in
    on_ok_weaker c.add_controls.result
    (λ adds. subst (λ (h : heads.RowHead). Adds a e (parts_by r h)) (sym c.in-Mode.is)
    (adds_more a b e (mode c.in-Mode.name.now (mode_settings_view c.in-Mode.settings) ∷ [])
    (control_parts whose m (controls_view r.controls.items)) c.in_ok-add_mode-in-Mode.ensures
    (subst (λ xs. Adds b e (control_parts whose m (controls_view xs))) c.deref.ensures.value adds)))
    c.add_controls.ensures

pub returns-in-Seat : goal.returns-in-Seat
returns-in-Seat c =
    let a = c.args.draft.now in
    let e = c.add_seated.new.draft in
    let r = c.args.parts.now in
    on_ok_weaker c.add_seated.result
    (λ adds. subst (λ (h : heads.RowHead). Adds a e (parts_by r h)) (sym c.in-Seat.is)
    (subst (λ xs. Adds a e (seated_parts (whose_view r.whose) c.in-Seat.row (acts_view xs)))
    c.deref-in-Seat.ensures.value adds))
    c.add_seated.ensures
