use Rattle.std.proofs.{Common.{◌++◌, refl, ap, ◌∙◌}, lemmas.{Result.on_ok_weaker, List.append_assoc}}
use Rattle.mpf_sections.specs.View.{ball_save_view}
use Rattle.plan_tables.specs.declared.devices.Act.TheVariants.{Enable, Disable}
use Rattle.plan_tables.specs.declared.devices.Settings.TheVariants as kinds
use Rattle.plan_parts.specs.{Devices.acts, RowViews.acts_view, SaveEntries.{save_acts, save_lists}}
use Rattle.plan_parts.proofs.Gives.{device_acting}
use Rattle.plan_parts.proofs.collect_saves.collect_ball_save.Goals as goal

pub returns : goal.returns
returns c =
    let row = ball_save_view c.args.row in
    let old = c.args.parts.now in
    let enables = acts Enable row.enable_events in
    let disables = acts Disable row.disable_events in
    let acting = c.in_ok-collect_acts-2.ensures ∙ ap (λ l. l ++ disables) c.in_ok-collect_acts.ensures
    ∙ append_assoc (acts_view old.event_acts.items) enables disables in
    on_ok_weaker c.collect_save_lists.result
    (λ doing. device_acting (kinds.BallSave row.settings) (save_acts row) (save_lists row.name.text) refl refl refl refl
    refl refl acting (doing ∙ ap (λ n. old.lists ++ save_lists n) c.deref.ensures))
    c.collect_save_lists.ensures
