use Rattle.std.proofs.Common.{length, ◌≡◌, refl, arith}
use Rattle.plan_parts.{specs.View.effect_view, proofs.Lists.{ends_added, lists_added}}
use Rattle.plan_parts.proofs.effects.EffectLists.add.Goals as goal

pub invariant_of-self-then-count-gt0 : goal.invariant_of-self-then-count-gt0
invariant_of-self-then-count-gt0 c =
    let inside = c.self.inside in
    let new = c.add.new.items in
    let counted : c.len-count.result ≡ length inside.ends.items = omega (arith, c.len-count.ensures, inside.ends.ok.0)
    in
    let end : c.len.result ≡ length new.items = omega (arith, c.len.ensures, new.ok.0) in
    ends_added inside.ends.items inside.effects.items new.items c.args.effect c.len-count.result c.len.result
    c.self.invariant counted c.in_ok-add.ensures.items end c.if-count-gt0.true

pub returns-in_ok-add : goal.returns-in_ok-add
returns-in_ok-add c =
    let inside = c.self.inside in
    let new = c.add.new.items in
    let counted : c.len-count.result ≡ length inside.ends.items = omega (arith, c.len-count.ensures, inside.ends.ok.0)
    in
    let end : c.len.result ≡ length new.items = omega (arith, c.len.ensures, new.ok.0) in
    lists_added inside.ends.items inside.effects.items new.items c.args.effect c.len-count.result c.len.result
    c.self.invariant counted c.in_ok-add.ensures.items end effect_view (effect_view c.args.effect) c.args.self.now
    refl c.self.view_is
