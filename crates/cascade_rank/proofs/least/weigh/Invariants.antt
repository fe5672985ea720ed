use Rattle.std.proofs.Common.{◌≡◌, ◌+◌, length, take}
use Rattle.cascade_rank.{specs.Weights.greatest, proofs.Grounding.AreWeighed}
use Rattle.cascade_rank.proofs.least.weigh.Given as goal

abbrev pub invariant-loop-event : goal.invariant-loop-event
invariant-loop-event l = record {
  count : length l.weights.items ≡ length l.plan.events;
  weighed : AreWeighed 0 (greatest + 1) l.plan (take l.event-index l.order) l.weights.items;
}
