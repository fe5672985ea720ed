use Rattle.std.proofs.Common.{◌<◌, ◌≤◌}
use Rattle.plan_tables.specs.declared.entries.EventId.{EventId}
use Rattle.cascade_rank.specs.{Events.weight_of, Weights.need}
use Rattle.cascade_rank.proofs.verdict.first_short.Given as goal

-- no event of a lower number weighs too little
abbrev pub invariant-loop-number : goal.invariant-loop-number
invariant-loop-number l = (e : EventId) → e.0 < l.number → need l.plan (weight_of l.weights) e ≤ weight_of l.weights e
