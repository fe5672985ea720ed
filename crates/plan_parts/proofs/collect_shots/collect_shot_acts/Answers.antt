use Rattle.std.proofs.{Common.{◌++◌, ap, ◌∙◌}, lemmas.{List.append_assoc, Result.on_ok_weaker}}
use Rattle.mpf_sections.specs.View.{shot_view}
use Rattle.plan_tables.specs.declared.devices.Act.TheVariants.{Hit, Advance, ResetShot, EnableShot, DisableShot}
use Rattle.plan_parts.specs.{Devices.acts, RowViews.acts_view, ShotEntries.switch_hits}
use Rattle.plan_parts.proofs.collect_shots.collect_shot_acts.Goals as goal

pub returns : goal.returns
returns c =
    let row = shot_view c.args.shot in
    let n = c.args.number in
    let old = acts_view c.args.event_acts.now.items in
    let switch = switch_hits (Hit n) row.switch in
    let hits = acts (Hit n) row.hits in
    let advances = acts (Advance n) row.advances in
    let resets = acts (ResetShot n) row.resets in
    let enables = acts (EnableShot n) row.enables in
    let disables = acts (DisableShot n) row.disables in
    let two = c.in_ok-collect_acts.ensures ∙ ap (λ l. l ++ hits) c.in_ok-collect_switch_hits.ensures
    ∙ append_assoc old switch hits in
    let three = c.in_ok-collect_acts-2.ensures ∙ ap (λ l. l ++ advances) two
    ∙ append_assoc old (switch ++ hits) advances in
    let four = c.in_ok-collect_acts-3.ensures ∙ ap (λ l. l ++ resets) three
    ∙ append_assoc old (switch ++ hits ++ advances) resets in
    let five = c.in_ok-collect_acts-4.ensures ∙ ap (λ l. l ++ enables) four
    ∙ append_assoc old (switch ++ hits ++ advances ++ resets) enables in
    on_ok_weaker c.collect_acts-5.result
    (λ last. last ∙ ap (λ l. l ++ disables) five
    ∙ append_assoc old (switch ++ hits ++ advances ++ resets ++ enables) disables) c.collect_acts-5.ensures
