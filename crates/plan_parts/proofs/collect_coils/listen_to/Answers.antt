use Rattle.std.{proofs.Common.{◌++◌, [], ◌∷◌, ap, sym, ◌∙◌}, specs.Prelude.option_map}
use Rattle.std.proofs.lemmas.{Result.on_ok_weaker, List.{append-nil, map-append}}
use Rattle.mpf_sections.specs.View.{name_at_view}
use Rattle.plan_parts.specs.{CoilEntries.named_switches, RowViews.bytes_view}
use Rattle.plan_parts.proofs.collect_coils.listen_to.Goals as goal

pub returns-in-Some : goal.returns-in-Some
returns-in-Some c =
    let old = c.args.listens.now.items in
    on_ok_weaker c.add.result
    (λ more. ap bytes_view more ∙ map-append (λ n. n.now) old (c.in-Some.switch.text ∷ [])
    ∙ ap (λ o. bytes_view old ++ named_switches (option_map name_at_view o)) (sym c.in-Some.is))
    c.add.ensures.items

pub returns-in-None : goal.returns-in-None
returns-in-None c =
    let old = bytes_view c.args.listens.now.items in
    sym (append-nil old) ∙ ap (λ o. old ++ named_switches (option_map name_at_view o)) (sym c.in-None.is)
