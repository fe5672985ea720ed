use Rattle.std.proofs.{Common.rules, lemmas.Bool.both_ways}
use Rattle.cascade_rank.proofs.Verifying.{All-are_limited}
use Rattle.cascade_rank.proofs.verdict.limited_bound.Goals as goal
use Rattle.cascade_rank.proofs.verdict.limited_bound.Goals.{then-bound-from-via-then-bound-from}
use Rattle.cascade_rank.proofs.verdict.limited_bound.Goals.{then-bound-from-via-else-bound-from+then-not-are_limited}

pub returns-then-bound-from-clause-above : goal.returns-then-bound-from-clause-above
returns-then-bound-from-clause-above c = search (
  rules,
  then-bound-from-via-then-bound-from,
  then-bound-from-via-else-bound-from+then-not-are_limited,
  both_ways,
  All-are_limited,
)
