use Rattle.std.proofs.{Common.{[], ◌∷◌, ◌++◌, codes}, lemmas.{List.append-nil, Result.on_ok_weaker}}
use Rattle.plan_parts.{specs.Effects.posts, proofs.Lists.with_last-push}
use Rattle.plan_parts.proofs.collect_shots.collect_shot_list.Goals as goal

pub returns : goal.returns
returns c =
    let old = c.args.lists.now in
    let name = c.args.name.now in
    let profile = c.args.profile.now in
    let state = c.args.state.now in
    let hit = posts (name ++ codes "_hit") in
    let in_profile = posts (name ++ codes "_" ++ profile ++ codes "_hit") in
    let in_state = posts (name ++ codes "_" ++ profile ++ codes "_" ++ state ++ codes "_hit") in
    let of_state = posts (name ++ codes "_" ++ state ++ codes "_hit") in
    let whole = append-nil name in
    let two = with_last-push (in_profile ∷ []) (hit ∷ []) old in
    let three = with_last-push (in_state ∷ []) (hit ∷ in_profile ∷ []) old in
    let four = with_last-push (of_state ∷ []) (hit ∷ in_profile ∷ in_state ∷ []) old in
    on_ok_weaker c.post-3.result
    (λ last. cc (
      c.in_ok-post_in_next.ensures,
      c.in_ok-post.ensures,
      c.in_ok-post-2.ensures,
      c.join_pieces.ensures,
      c.ending.ensures,
      c.in_profile.ensures,
      c.ending-2.ensures,
    )) c.post-3.ensures
