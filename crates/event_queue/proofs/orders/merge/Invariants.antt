use Rattle.std.proofs.Common.{◌+◌, ◌≤◌, length, vec_capacity}
use Rattle.event_queue.{specs.OrderedLists.{put_all, runs_before}, proofs.Walk.IsMerging}
use Rattle.event_queue.proofs.orders.merge.Given as goal

abbrev pub invariant-loop-rest : goal.invariant-loop-rest
invariant-loop-rest l = record {
  merging : IsMerging (runs_before l.plan) (put_all (runs_before l.plan) l.group l.order) l.rest l.fresh.items
      l.rest_of_order;
  room : length l.fresh.items + (length l.rest_of_order + length l.rest) ≤ vec_capacity l.fn.fresh;
  capacity : vec_capacity l.fn.fresh ≤ vec_capacity l.fresh;
}

abbrev pub decreases-loop-rest : goal.decreases-loop-rest
decreases-loop-rest l = length l.rest
