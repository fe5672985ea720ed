use Rattle.std.proofs.Common.{length}
use Rattle.coil_guard.{specs.{CoilStep.is_on_at, Coils.coil_at}, proofs.Lowest.{found-at, answer-within}}
use Rattle.coil_guard.proofs.coils.Coils.next_on.Goals as goal

pub returns-then-is_on_at-clause-next : goal.returns-then-is_on_at-clause-next
returns-then-is_on_at-clause-next c =
    found-at (is_on_at c.args.now) c.deref-coil-items.result.now c.self.inside.coils.items c.args.self.now
    c.loop-number.number _ c.is_on_at.result c.deref-coil-items.ensures.value c.self.view_is c.loop-number-test.true
    c.loop-number.invariant c.is_on_at.ensures c.if-is_on_at.true

pub returns-then-is_on_at-clause-within : goal.returns-then-is_on_at-clause-within
returns-then-is_on_at-clause-within c =
    answer-within (λ coil. is_on_at c.args.now (coil_at c.args.self.now coil)) (length c.args.self.now) _
    (returns-then-is_on_at-clause-next c)
