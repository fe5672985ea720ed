use Rattle.std.proofs.{Common.{[], ◌∷◌, ◌++◌, map, codes, ap, ◌∙◌}, lemmas.{List.append_assoc, Result.on_ok_weaker}}
use Rattle.mpf_sections.specs.View.{name_view}
use Rattle.plan_parts.specs.{Effects.posts, DeviceEntries.{block_event, or_own}}
use Rattle.plan_parts.proofs.collect_devices.collect_block_lists.Goals as goal

pub returns : goal.returns
returns c =
    let old = c.args.lists.now in
    let event = block_event c.args.name.now in
    let hit_names = map name_view c.args.block.hit.now in
    let complete_names = map name_view c.args.block.complete.now in
    let updated = posts (event (codes "_updated")) ∷ [] in
    let hit = map posts (or_own hit_names (event (codes "_hit"))) in
    let complete = map posts (or_own complete_names (event (codes "_complete"))) in
    let one = c.in_ok-post_in_next.ensures ∙ ap (λ n. old ++ (posts n ∷ []) ∷ []) c.block_event.ensures in
    let two = c.in_ok-collect_list.ensures
    ∙ ap (λ n. c.post_in_next.new.lists ++ map posts (or_own hit_names n) ∷ []) c.block_event-2.ensures in
    on_ok_weaker c.collect_list-2.result
    (λ last. last
    ∙ ap (λ n. c.collect_list.new.lists ++ map posts (or_own complete_names n) ∷ []) c.block_event-3.ensures
    ∙ ap (λ ls. ls ++ complete ∷ []) (two ∙ ap (λ ls. ls ++ hit ∷ []) one ∙ append_assoc old (updated ∷ []) (hit ∷ []))
    ∙ append_assoc old (updated ∷ hit ∷ []) (complete ∷ []))
    c.collect_list-2.ensures
