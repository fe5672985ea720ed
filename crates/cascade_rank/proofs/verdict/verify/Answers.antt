use Rattle.std.proofs.Common.{rules, ◌≡◌, List, ℕ, length, refl, ap, subst, arith}
use Rattle.cascade_rank.specs.{Finding.short, Verified.IsFirstShort}
use Rattle.cascade_rank.proofs.Verifying.{verified_at-wrong, verified_at-short, GivesBound-limited}
use Rattle.cascade_rank.proofs.verdict.verify.Goals as goal

pub returns-then-weights-event_count-clause-exact : goal.returns-then-weights-event_count-clause-exact
returns-then-weights-event_count-clause-exact c = search (rules, verified_at-wrong)

pub returns-in-Some-clause-exact : goal.returns-in-Some-clause-exact
returns-in-Some-clause-exact c =
    let same = ap length c.as_slice-weights.ensures in
    let count : length c.args.weights.now ≡ length c.args.plan.now.events = omega (arith, same) in
    let found : IsFirstShort c.args.plan.now c.args.weights.now c.in-Some.event c.in-Some.least_weight
    = subst (λ (ws : List ℕ). IsFirstShort c.args.plan.now ws c.in-Some.event c.in-Some.least_weight)
    c.as_slice-weights.ensures c.in-Some.ensures.short in (
      short c.in-Some.event c.in-Some.least_weight,
      refl,
      verified_at-short c.args.plan.now c.args.weights.now count c.in-Some.event c.in-Some.least_weight found,
    )

pub returns-in-None-clause-exact : goal.returns-in-None-clause-exact
returns-in-None-clause-exact c = search (rules, GivesBound-limited)
