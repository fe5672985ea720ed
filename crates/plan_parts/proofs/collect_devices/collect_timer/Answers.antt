use Rattle.std.proofs.{Common.{◌++◌, map, refl, ap, ◌∙◌}, lemmas.Result.on_ok_weaker}
use Rattle.mpf_sections.specs.View.{timer_view}
use Rattle.plan_tables.specs.declared.devices.Settings.TheVariants as kinds
use Rattle.plan_parts.{specs.DeviceEntries.{act_of_control, timer_lists}, proofs.Gives.device_acting}
use Rattle.plan_parts.proofs.collect_devices.collect_timer.Goals as goal

pub returns : goal.returns
returns c =
    let row = timer_view c.args.row in
    let old = c.args.parts.now in
    on_ok_weaker c.collect_timer_lists.result
    (λ doing. device_acting (kinds.Timer row.settings) (map act_of_control row.controls) (timer_lists row.name.text)
    refl refl refl refl refl refl c.in_ok-collect_timer_acts.ensures
    (doing ∙ ap (λ n. old.lists ++ timer_lists n) c.deref.ensures))
    c.collect_timer_lists.ensures
