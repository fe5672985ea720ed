use Rattle.std.proofs.Common.{◌<◌, ◌≤◌, ◌-◌, [], ◌∷◌, length, get_or, take, drop, ap, sym, ◌∙◌, arith}
use Rattle.std.proofs.lemmas.List.{get_or_read, get_or_past}
use Rattle.plan_parts.{specs.View.effect_view, proofs.Lists.{lists_counted, ends_rise, list_found}}
use Rattle.plan_parts.proofs.effects.EffectLists.list.Goals as goal

-- there are not so many lists
pub returns-then-number-len : goal.returns-then-number-len
returns-then-number-len c =
    let inside = c.self.inside in
    let few : length c.args.self.now ≤ c.args.number =
    omega (
      arith,
      c.if-number-len.true,
      c.len.ensures,
      lists_counted effect_view inside.ends.items inside.effects.items c.args.self.now c.self.view_is,
    ) in
    sym (get_or_past c.args.self.now c.args.number [] few)

pub part_of-requires : goal.part_of-requires
part_of-requires c =
    let ends = c.self.inside.ends.items in
    let effects = c.self.inside.effects.items in
    let number = c.args.number in
    let within : number < length ends = omega (arith, c.if-number-len.false, c.len.ensures) in
    let begin = c.begin_of-begin.ensures ∙ ap (λ l. get_or (0 ∷ l) number 0) c.deref.ensures.value in
    let end = get_or_read ends number c.index.result.now within c.index.ensures 0 in
    let rises = ends_rise 0 ends (length effects) number 0 c.self.invariant within in
    record {
      rise = omega (arith, begin, end, rises.0);
      within = omega (arith, end, rises.1, ap length c.deref-2.ensures.value);
    }

pub returns : goal.returns
returns c =
    let ends = c.self.inside.ends.items in
    let effects = c.self.inside.effects.items in
    let number = c.args.number in
    let first = c.begin_of-begin.result in
    let last = c.index.result.now in
    let within : number < length ends = omega (arith, c.if-number-len.false, c.len.ensures) in
    let begin = c.begin_of-begin.ensures ∙ ap (λ l. get_or (0 ∷ l) number 0) c.deref.ensures.value in
    let end = get_or_read ends number last within c.index.ensures 0 in
    list_found effect_view ends effects c.part_of.result.now number first last c.args.self.now within begin end
    (c.part_of.ensures ∙ ap (λ xs. take (last - first) (drop first xs)) c.deref-2.ensures.value) c.self.view_is
