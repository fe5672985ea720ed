use Rattle.std.proofs.Common.{length, ◌∙◌, ◌≡◌, arith}
use Rattle.plan_parts.{specs.View.effect_view, proofs.Lists.lists_counted}
use Rattle.plan_parts.proofs.effects.EffectLists.len.Goals as goal

pub returns : goal.returns
returns c =
    let inside = c.self.inside in
    let counted : c.len.result ≡ length inside.ends.items = omega (arith, c.len.ensures, inside.ends.ok.0) in
    counted ∙ lists_counted effect_view inside.ends.items inside.effects.items c.args.self.now c.self.view_is
