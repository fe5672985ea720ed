use Rattle.std.proofs.{Common.{◌++◌, codes, ap, ◌∙◌}, lemmas.{List.append_assoc, Result.on_ok_weaker}}
use Rattle.std.specs.List.{flat_map}
use Rattle.mpf_sections.specs.View.{shot_group_view}
use Rattle.machine_definitions.specs.Found.{profile_view}
use Rattle.plan_parts.specs.{Devices.texts, ShotEntries.{shot_lists, state_lists}}
use Rattle.plan_parts.proofs.collect_shots.collect_group_lists.Goals as goal

pub returns : goal.returns
returns c =
    let p = profile_view c.args.profile.now in
    let group = shot_group_view c.args.group in
    let name = group.name.text in
    let old = c.args.lists.now in
    let shots = flat_map (shot_lists p) (texts group.shots) in
    let hit = state_lists (codes "_hit") p in
    let complete = state_lists (codes "_complete") p in
    let named = c.as_slice-name.ensures in
    on_ok_weaker c.collect_states-2.result
    (λ last. last
    ∙ ap (λ n. c.collect_states.new.lists ++ complete n) named
    ∙ ap (λ l. l ++ complete name)
    (c.in_ok-collect_states.ensures ∙ ap (λ n. c.collect_each_shot.new.lists ++ hit n) named
    ∙ ap (λ l. l ++ hit name) c.in_ok-collect_each_shot.ensures ∙ append_assoc old shots (hit name))
    ∙ append_assoc old (shots ++ hit name) (complete name))
    c.collect_states-2.ensures
