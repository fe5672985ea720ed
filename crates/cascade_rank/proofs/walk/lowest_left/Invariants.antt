use Rattle.std.proofs.Common.{◌≡◌, nat_lt, length, take}
use Rattle.cascade_rank.specs.{Cost.{each_of, cost_of_post}, Lowest.lowest, Order.left_of}
use Rattle.cascade_rank.proofs.walk.lowest_left.Given as goal

abbrev pub invariant-loop-event : goal.invariant-loop-event
invariant-loop-event l = l.lowest ≡ lowest (length l.unmet_counts) (λ e. nat_lt 0 (left_of l.unmet_counts e))
    (each_of cost_of_post (take l.event-index l.posts))
