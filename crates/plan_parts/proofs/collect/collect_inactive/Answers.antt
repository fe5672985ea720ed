use Rattle.std.proofs.Common.{[], ◌∷◌, ◌++◌, codes, ap, ◌∙◌}
use Rattle.std.proofs.lemmas.{List.{append-nil, append_assoc}, Result.on_ok_weaker}
use Rattle.mpf_sections.specs.View.{switch_view}
use Rattle.plan_parts.{specs.{Parts.texts, RowViews.names_view}, proofs.Views.names_view-push}
use Rattle.plan_parts.proofs.collect.collect_inactive.Goals as goal

pub returns : goal.returns
returns c =
    let row = switch_view c.args.row in
    let old = names_view c.args.inactive.now.items in
    let own = row.name.text ++ codes "_inactive" in
    let named = c.join_pieces.ensures ∙ ap (λ n. n ++ [] ++ codes "_inactive") c.deref.ensures
    ∙ ap (λ n. n ++ codes "_inactive") (append-nil row.name.text) in
    let first = ap names_view c.in_ok-add.ensures.items ∙ names_view-push c.args.inactive.now.items c.join_pieces.result
    ∙ ap (λ n. old ++ n ∷ []) named in
    on_ok_weaker c.collect_names.result (λ last. last ∙ ap (λ l. l ++ texts row.deactivation_events) first
    ∙ append_assoc old (own ∷ []) (texts row.deactivation_events)) c.collect_names.ensures
