use Rattle.std.proofs.Common.{rules, ◌≤◌, ℕ, below_more, arith}
use Rattle.cascade_rank.{specs.{Events.weight_of, Weights.need}, proofs.Events.event}
use Rattle.cascade_rank.proofs.verdict.first_short.Goals as goal

pub returns-then-from-least_weight-clause-short : goal.returns-then-from-least_weight-clause-short
returns-then-from-least_weight-clause-short c = search rules

pub loop-number-preserved : goal.loop-number-preserved
loop-number-preserved c =
    let more = below_more (λ (n : ℕ). need c.args.plan.now (weight_of c.args.weights.now) (event n)
    ≤ weight_of c.args.weights.now (event n)) c.loop-number.number (λ n l. c.loop-number.invariant (event n) l)
    (omega (arith, c.need-least_weight.ensures)) in
    λ e l. more e.0 l

pub returns-clause-fits : goal.returns-clause-fits
returns-clause-fits c = λ e h. c.loop-number.invariant e (omega arith)
