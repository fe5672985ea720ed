use Rattle.std.proofs.Common.{◌+◌, ◌≤◌, length, vec_capacity}
use Rattle.event_queue.{specs.OrderedLists.runs_before, proofs.Walk.IsParting}
use Rattle.event_queue.proofs.orders.part.Given as goal

abbrev pub invariant-loop-rest : goal.invariant-loop-rest
invariant-loop-rest l = record {
  parting : IsParting (runs_before l.plan) l.group l.order l.rest l.fresh.items l.rest_of_order;
  room : length l.fresh.items + length l.rest_of_order ≤ vec_capacity l.fn.fresh;
  capacity : vec_capacity l.fn.fresh ≤ vec_capacity l.fresh;
}

abbrev pub decreases-loop-rest : goal.decreases-loop-rest
decreases-loop-rest l = length l.rest
