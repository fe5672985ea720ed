use Rattle.std.proofs.{Common.{[], ◌∷◌, ◌++◌, codes}, lemmas.{List.append_assoc, Result.on_ok_weaker}}
use Rattle.plan_parts.{specs.{Effects.{posts, requests}, SaveEntries.save_event}, proofs.Lists.with_last-push}
use Rattle.plan_parts.proofs.collect_saves.collect_save_lists.Goals as goal

pub returns : goal.returns
returns c =
    let old = c.args.lists.now in
    let event = save_event c.args.name.now in
    let enabled = posts (event (codes "_enabled")) in
    let disabled = posts (event (codes "_disabled")) in
    let saving = posts (event (codes "_saving_ball")) in
    let two = append_assoc old ((enabled ∷ []) ∷ []) ((disabled ∷ []) ∷ []) in
    let grown = with_last-push (requests 1 ∷ []) (saving ∷ []) (old ++ (enabled ∷ []) ∷ (disabled ∷ []) ∷ []) in
    let three = append_assoc old ((enabled ∷ []) ∷ (disabled ∷ []) ∷ []) ((saving ∷ requests 1 ∷ []) ∷ []) in
    on_ok_weaker c.add.result
    (λ last. cc (
      c.in_ok-post_in_next.ensures,
      c.in_ok-post_in_next-2.ensures,
      c.in_ok-post_in_next-3.ensures,
      c.save_event.ensures,
      c.save_event-2.ensures,
      c.save_event-3.ensures,
    )) c.add.ensures
