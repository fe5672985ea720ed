use Rattle.std.proofs.Common.{[], ◌∷◌, ◌++◌, map, sym, ap, ◌∙◌, rules}
use Rattle.std.proofs.lemmas.{List.append_assoc, Result.{IfOk-equal, on_ok_weaker}}
use Rattle.plan_parts.specs.{Effects.posts, Lists.with_last, View.pieces_text}
use Rattle.plan_parts.proofs.{Lists.with_last-push, Views.own_name}
use Rattle.plan_parts.proofs.collect_devices.collect_list.Goals as goal

pub returns-then-is_none : goal.returns-then-is_none
returns-then-is_none c =
    let old = c.args.lists.now in
    let own = pieces_text c.args.own in
    let more = posts own ∷ [] in
    on_ok_weaker c.post.result
    (λ last. last
    ∙ ap (with_last more) c.in_ok-begin.ensures
    ∙ with_last-push more [] old
    ∙ ap (λ ns. old ++ map posts ns ∷ []) (own_name c.args.names.now own (sym c.is_none.ensures ∙ c.if-is_none.true)))
    c.post.ensures

pub returns : goal.returns
returns c = search (rules, IfOk-equal, append_assoc, with_last-push)
