use Rattle.std.proofs.{Common.{◌++◌, refl, ap, ◌∙◌}, lemmas.Result.on_ok_weaker}
use Rattle.mpf_sections.specs.View.{multiball_view}
use Rattle.plan_tables.specs.declared.devices.Act.TheVariants.{Start}
use Rattle.plan_tables.specs.declared.devices.Settings.TheVariants as kinds
use Rattle.plan_parts.{specs.{Devices.acts, SaveEntries.multiball_lists}, proofs.Gives.device_acting}
use Rattle.plan_parts.proofs.collect_saves.collect_multiball.Goals as goal

pub returns : goal.returns
returns c =
    let row = multiball_view c.args.row in
    let old = c.args.parts.now in
    on_ok_weaker c.collect_multiball_lists.result
    (λ doing. device_acting (kinds.Multiball row.settings) (acts Start row.start_events)
    (multiball_lists row.name.text row.settings.balls) refl refl refl refl refl refl c.in_ok-collect_acts.ensures
    (doing ∙ ap (λ n. old.lists ++ multiball_lists n row.settings.balls) c.deref.ensures))
    c.collect_multiball_lists.ensures
