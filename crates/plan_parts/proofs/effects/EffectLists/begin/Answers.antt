use Rattle.std.proofs.Common.{length, ◌≡◌, arith}
use Rattle.plan_parts.{specs.View.effect_view, proofs.Lists.{ends_begun, lists_begun}}
use Rattle.plan_parts.proofs.effects.EffectLists.begin.Goals as goal

pub invariant_of-self : goal.invariant_of-self
invariant_of-self c =
    let inside = c.self.inside in
    let counted : c.len.result ≡ length inside.effects.items = omega (arith, c.len.ensures, inside.effects.ok.0) in
    ends_begun c.add.result inside.ends.items c.add.new.items.items (length inside.effects.items) c.len.result
    c.self.invariant counted c.add.ensures.items c.add.ensures.same

pub returns : goal.returns
returns c =
    let inside = c.self.inside in
    let counted : c.len.result ≡ length inside.effects.items = omega (arith, c.len.ensures, inside.effects.ok.0) in
    lists_begun c.add.result effect_view inside.ends.items c.add.new.items.items inside.effects.items c.len.result
    c.args.self.now c.self.invariant c.self.view_is counted c.add.ensures.items
