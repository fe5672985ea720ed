use Rattle.std.proofs.{Common.{[], ◌∷◌, codes}, lemmas.{List.append_assoc, Result.on_ok_weaker}}
use Rattle.plan_parts.specs.{Effects.{posts, leaves, loses, arrives}, BallEntries.ball_event}
use Rattle.plan_parts.proofs.collect_balls.collect_later.Goals as goal

pub returns : goal.returns
returns c =
    let old = c.args.lists.now in
    let event = ball_event c.args.name.now in
    let left = leaves ∷ [] in
    let lost = loses ∷ [] in
    let success = posts (event (codes "_ball_eject_success")) ∷ [] in
    let arrived = arrives ∷ [] in
    let failed = posts (event (codes "_ball_eject_failed")) ∷ [] in
    let two = append_assoc old (left ∷ []) (lost ∷ []) in
    let three = append_assoc old (left ∷ lost ∷ []) (success ∷ []) in
    let four = append_assoc old (left ∷ lost ∷ success ∷ []) (arrived ∷ []) in
    let five = append_assoc old (left ∷ lost ∷ success ∷ arrived ∷ []) (failed ∷ []) in
    on_ok_weaker c.post_in_next-2.result
    (λ last. cc (
      c.in_ok-do_in_next.ensures,
      c.in_ok-do_in_next-2.ensures,
      c.in_ok-post_in_next.ensures,
      c.in_ok-do_in_next-3.ensures,
      c.ball_event.ensures,
      c.ball_event-2.ensures,
    ))
    c.post_in_next-2.ensures
