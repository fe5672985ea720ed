use Rattle.std.{proofs.{Common.{[], ◌∷◌, sym, ap, ◌∙◌}, lemmas.Result.on_ok_weaker}, specs.Prelude.option_map}
use Rattle.mpf_sections.specs.View.{name_at_view}
use Rattle.plan_parts.specs.{Effects.works, BallEntries.eject_pulse, CoilEntries.own_pulse, Lists.with_last}
use Rattle.plan_parts.proofs.Lists.{with_last-nil}
use Rattle.plan_parts.proofs.collect_balls.collect_pulse.Goals as goal

pub returns-in-Some : goal.returns-in-Some
returns-in-Some c =
    let machine = c.args.definitions.now.machine in
    let old = c.args.lists.now in
    let name = c.in-Some.name.text.now in
    on_ok_weaker c.add.result
    (λ last. last
    ∙ ap (λ d. with_last (works name d ∷ []) old) (c.own_pulse-pulse.ensures ∙ ap own_pulse c.defaults_of.ensures)
    ∙ ap (λ o. with_last (eject_pulse machine (option_map name_at_view o)) old) (sym c.in-Some.is))
    c.add.ensures

pub returns-in-None : goal.returns-in-None
returns-in-None c =
    let machine = c.args.definitions.now.machine in
    let old = c.args.lists.now in
    sym (with_last-nil old) ∙ ap (λ o. with_last (eject_pulse machine (option_map name_at_view o)) old)
    (sym c.in-None.is)
