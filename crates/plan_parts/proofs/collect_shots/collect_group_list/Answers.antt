use Rattle.std.proofs.{Common.{[], ◌∷◌, ◌++◌, codes}, lemmas.{List.append-nil, Result.on_ok_weaker}}
use Rattle.plan_parts.{specs.Effects.posts, proofs.Lists.with_last-push}
use Rattle.plan_parts.proofs.collect_shots.collect_group_list.Goals as goal

pub returns : goal.returns
returns c =
    let old = c.args.lists.now in
    let name = c.args.name.now in
    let state = c.args.state.now in
    let end = c.args.end.now in
    let all = posts (name ++ end) in
    let of_state = posts (name ++ codes "_" ++ state ++ end) in
    let whole = append-nil name in
    let two = with_last-push (of_state ∷ []) (all ∷ []) old in
    on_ok_weaker c.post.result (λ last. cc (c.in_ok-post_in_next.ensures, c.join_pieces.ensures, c.ending.ensures))
    c.post.ensures
