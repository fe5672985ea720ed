use Rattle.std.proofs.Common.{◌≡◌, ◌-◌, ◌^◌, length, take}
use Rattle.cascade_rank.proofs.Grounding.{AreWeighed}
use Rattle.cascade_rank.proofs.work_bounds.weigh_steps.Given as goal

abbrev pub invariant-loop-event : goal.invariant-loop-event
invariant-loop-event l = record {
  count : length l.weights.items ≡ length l.plan.events;
  weighed : AreWeighed 1 (2 ^ 64 - 1) l.plan (take l.event-index l.order) l.weights.items;
}
