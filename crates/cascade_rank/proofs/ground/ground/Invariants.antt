use Rattle.std.proofs.Common.{◌-◌, [], length}
use Rattle.cascade_rank.specs.Order.{IsOrdering}
use Rattle.cascade_rank.proofs.ground.ground.Given as goal

abbrev pub invariant-loop-next : goal.invariant-loop-next
invariant-loop-next l = IsOrdering l.plan l.next [] l.unmet_counts.items l.order.items

abbrev pub decreases-loop-next : goal.decreases-loop-next
decreases-loop-next l = length l.plan.events - l.next
