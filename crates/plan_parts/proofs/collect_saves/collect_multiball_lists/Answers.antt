use Rattle.std.proofs.{Common.{[], ◌∷◌, codes}, lemmas.{List.append_assoc, Result.on_ok_weaker}}
use Rattle.plan_parts.{specs.{Effects.{posts, adds_balls}, SaveEntries.multiball_event}, proofs.Lists.with_last-push}
use Rattle.plan_parts.proofs.collect_saves.collect_multiball_lists.Goals as goal

pub returns : goal.returns
returns c =
    let old = c.args.lists.now in
    let event = multiball_event c.args.name.now in
    let started = posts (event (codes "_started")) in
    let ended = posts (event (codes "_ended")) in
    let adds = adds_balls c.args.balls in
    let grown = with_last-push (adds ∷ []) (started ∷ []) old in
    let joined = append_assoc old ((started ∷ adds ∷ []) ∷ []) ((ended ∷ []) ∷ []) in
    on_ok_weaker c.post_in_next-2.result (λ last. cc
    (c.in_ok-post_in_next.ensures, c.in_ok-add.ensures, c.multiball_event.ensures, c.multiball_event-2.ensures))
    c.post_in_next-2.ensures
