use Rattle.std.proofs.Common.{[], ◌∷◌, ◌++◌, map, codes, ap, ◌∙◌}
use Rattle.std.proofs.lemmas.{List.{append-nil, append_assoc}, Result.on_ok_weaker}
use Rattle.mpf_sections.specs.View.{switch_view}
use Rattle.plan_parts.{specs.{Parts.{tag_event, texts}, RowViews.names_view}, proofs.Views.names_view-push}
use Rattle.plan_parts.proofs.collect.collect_active.Goals as goal

pub returns : goal.returns
returns c =
    let row = switch_view c.args.row in
    let old = names_view c.args.active.now.items in
    let own = row.name.text ++ codes "_active" in
    let tags = map tag_event row.tags in
    let named = c.join_pieces.ensures ∙ ap (λ n. n ++ [] ++ codes "_active") c.deref.ensures
    ∙ ap (λ n. n ++ codes "_active") (append-nil row.name.text) in
    let first = ap names_view c.in_ok-add.ensures.items ∙ names_view-push c.args.active.now.items c.join_pieces.result
    ∙ ap (λ n. old ++ n ∷ []) named in
    on_ok_weaker c.collect_names.result
    (λ last. last
    ∙ ap (λ l. l ++ texts row.activation_events)
    (c.in_ok-collect_tags.ensures ∙ ap (λ l. l ++ tags) first ∙ append_assoc old (own ∷ []) tags)
    ∙ append_assoc old (own ∷ tags) (texts row.activation_events))
    c.collect_names.ensures
