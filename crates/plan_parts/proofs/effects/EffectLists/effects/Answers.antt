use Rattle.std.{proofs.Common.{map, ap, ◌∙◌}, specs.List.flat_map}
use Rattle.plan_parts.{specs.View.effect_view, proofs.Lists.all_lists}
use Rattle.plan_parts.proofs.effects.EffectLists.effects.Goals as goal

pub returns : goal.returns
returns c =
    let inside = c.self.inside in
    ap (map effect_view) c.deref.ensures.value
    ∙ all_lists effect_view inside.ends.items inside.effects.items c.self.invariant
    ∙ ap (flat_map (λ es. es)) c.self.view_is
