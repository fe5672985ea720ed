use Rattle.std.proofs.Common.{◌≤◌, length, slice_set, false, vec_capacity}
use Rattle.event_queue.{specs.{Handlers.runs_at, OrderedLists.{HasOrders, also_all}}, proofs.Rests.IsRest}
use Rattle.event_queue.proofs.handlers.Handlers.drop_owner.Given as goal

abbrev pub invariant-groups : goal.invariant-groups
invariant-groups l = record {
  orders : HasOrders l.plan.now (also_all (runs_at l.plan.now (slice_set l.running.items l.mode.0 false)) l.rest)
      l.orders.items;
  rest : IsRest l.plan.now l.mode l.rest;
  room : length l.plan.now.bindings ≤ vec_capacity l.fresh;
}

abbrev pub decreases-groups : goal.decreases-groups
decreases-groups l = length l.rest
