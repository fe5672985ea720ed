use Rattle.cascade_rank.proofs.Ordering.{IsStart}
use Rattle.cascade_rank.proofs.ground.first_grounded.Given as goal

abbrev pub invariant-loop-number : goal.invariant-loop-number
invariant-loop-number l = IsStart l.plan l.unmet_counts l.number l.order.items
