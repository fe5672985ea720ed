use Rattle.std.proofs.Common.{◌≡◌, length, [], ◌∷◌, ◌++◌, true, refl, sym, ap, ◌∙◌}
use Rattle.std.{proofs.lemmas.{Result.on_ok_weaker, List.length-map}, specs.Prelude.not}
use Rattle.mpf_sections.specs.View.{name_view, shot_group_view}
use Rattle.plan_rows.specs.View.{members_view}
use Rattle.plan_parts.specs.declared.row_parts.RowHead.TheVariants as kinds
use Rattle.plan_parts.specs.{Devices.texts, Parts.device, RowViews.{bytes_view, acts_view, names_view, parts_by}}
use Rattle.plan_parts.specs.ShotEntries.{bank_settings, group_acts, group_lists, group_device}
use Rattle.plan_parts.proofs.Gives.{parts_with_unknown, parts_of_device}
use Rattle.plan_parts.proofs.collect_shots.collect_group.Goals as goal

pub returns : goal.returns
returns c =
    let row = shot_group_view c.args.row in
    let m = members_view c.args.members in
    let d = group_device row m in
    let new = record c.args.parts.now {
      unknown = not m.all_known;
      head = kinds.Device c.bank_settings.result;
      event_acts = c.collect_group_acts.new.event_acts;
      lists = c.collect_group_lists.new.lists;
    } in
    let shots = c.args.row.shots.now in
    let counted : length shots ≡ length row.shots = sym (length-map shots name_view) in
    on_ok_weaker c.collect_group_lists.result
    (λ doing whose none.
    parts_with_unknown new m.all_known (device whose d ∷ []) refl none.mentions
    (ap (λ s. parts_by new (kinds.Device s))
    (c.bank_settings.ensures ∙ ap (λ n. bank_settings m.profile n m.enabled true) counted)
    ∙ parts_of_device new whose d none.of
    (ap bytes_view none.listens)
    (c.in_ok-collect_group_acts.ensures ∙ ap (λ xs. acts_view xs ++ group_acts row) none.event_acts)
    (ap names_view none.other_mentions)
    (doing ∙ ap (λ ls. ls ++ group_lists m.profile row.name.text (texts row.shots)) none.lists)))
    c.collect_group_lists.ensures
