use Rattle.std.proofs.{Common.{Bool, List, [], ◌∷◌, ◌++◌, false, refl, ap, ◌∙◌}, lemmas.Result.on_ok_weaker}
use Rattle.mpf_sections.specs.View.{shot_view}
use Rattle.machine_definitions.specs.Found.{profile_view}
use Rattle.plan_rows.specs.Members.{is_enabled, flags}
use Rattle.plan_parts.specs.declared.row_parts.RowHead.TheVariants as kinds
use Rattle.plan_parts.{specs.ShotEntries.{bank_settings, shot_acts, shot_lists}, proofs.Gives.device_acting}
use Rattle.plan_parts.proofs.collect_shots.collect_lone.Goals as goal

pub returns : goal.returns
returns c =
    let row = shot_view c.args.row in
    let p = profile_view c.args.profile.now in
    let old = c.args.parts.now in
    let settings =
    c.bank_settings.ensures ∙ ap (λ (fs : List Bool). bank_settings p 1 fs false)
    (c.first_flag.ensures ∙ ap (λ (b : Bool). flags (b ∷ [])) c.is_enabled.ensures) in
    on_ok_weaker c.collect_shot_lists.result
    (λ doing. device_acting (bank_settings p 1 (flags (is_enabled row ∷ [])) false) (shot_acts 0 row)
    (shot_lists p row.name.text) (ap kinds.Device settings) refl refl refl refl refl
    c.in_ok-collect_shot_acts.ensures (doing ∙ ap (λ n. old.lists ++ shot_lists p n) c.deref.ensures))
    c.collect_shot_lists.ensures
