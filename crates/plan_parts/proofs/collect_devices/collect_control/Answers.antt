use Rattle.std.proofs.Common.{[], ◌∷◌, ◌++◌, ℤ, w64, map, sym, ap, ◌∙◌, rules}
use Rattle.std.{proofs.lemmas.{Int.to_z-of_z, Result.on_ok_weaker}, specs.Prelude.option_map}
use Rattle.mpf_sections.specs.{Typed.with_control, View.control_view}
use Rattle.plan_parts.specs.{DeviceEntries.{act_of_control, control_act}, RowViews.acts_view}
use Rattle.plan_parts.proofs.Views.{acts_view-push}
use Rattle.plan_parts.proofs.collect_devices.collect_control.Goals as goal
use mir.Val.{SFits}

pub returns : goal.returns
returns c =
    let event_acts = c.args.event_acts.now.items in
    let old = acts_view event_acts in
    let control = c.in-Some.control in
    let fits : SFits w64 control.value = search rules in
    let act = c.control_act-act.ensures ∙ ap (λ (n : ℤ). control_act control.action n)
    (to_z-of_z w64 control.value fits) in
    on_ok_weaker c.add.result
    (λ added. ap acts_view added
    ∙ acts_view-push event_acts c.as_written.result c.control_act-act.result
    ∙ (λ i. old ++ (c.as_written.ensures i, act i) ∷ [])
    ∙ ap (λ o. old ++ map act_of_control (with_control o []))
    (ap (option_map control_view) (sym c.in-Some.is) ∙ c.as_control.ensures))
    c.add.ensures.items
