use Rattle.std.proofs.Common.{ℕ, ◌<◌, Option, IfSome, length, sym, subst, arith}
use Rattle.ball_devices.proofs.FirstDue.{first-all, first-within}
use Rattle.ball_devices.proofs.switches.first_of.Goals as goal

pub returns-clause-within : goal.returns-clause-within
returns-clause-within c =
    let bs = c.args.switches.now in
    subst (λ (first : Option (ℕ × ℕ)). IfSome first (λ due. due.1 < length bs))
    (sym (first-all bs c.loop-number.number c.loop-number.first c.loop-number-test.false c.loop-number.invariant))
    (first-within (length bs) 0 bs (omega arith))
