use Rattle.std.proofs.Common.{take}
use Rattle.cascade_rank.specs.Order.{Meets}
use Rattle.cascade_rank.proofs.ground.meet.Given as goal

abbrev pub invariant-loop-event : goal.invariant-loop-event
invariant-loop-event l = Meets l.leaders (take l.event-index l.leaders) l.fn.unmet_counts l.fn.order.items
    l.unmet_counts l.order.items
