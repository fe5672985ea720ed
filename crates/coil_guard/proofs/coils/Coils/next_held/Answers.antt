use Rattle.std.proofs.Common.{refl, ap, ◌∙◌, length, arith}
use Rattle.coil_guard.{specs.CoilStep.is_held_by, proofs.Lowest.found-at}
use Rattle.coil_guard.proofs.coils.Coils.next_held.Goals as goal

pub returns-then-is_held_by-clause-next : goal.returns-then-is_held_by-clause-next
returns-then-is_held_by-clause-next c =
    found-at (is_held_by c.args.owner) c.self.inside.coils.items c.self.inside.coils.items c.args.self.now
    c.loop-number.number c.index.result.now c.is_held_by.result refl c.self.view_is
    (omega (arith, c.loop-number-test.true, c.len-number-end.ensures)) c.loop-number.invariant
    (c.is_held_by.ensures ∙ ap (is_held_by c.args.owner) c.index.ensures) c.if-is_held_by.true
