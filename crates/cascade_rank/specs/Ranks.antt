-- The least weights, if every event is grounded.
use Rattle.std.specs.Prelude.{ℕ, zero, suc, List, length, map}
use Rattle.plan_tables.specs.{PlanView.PlanView, declared.entries.EventId.EventId}
use Rattle.cascade_rank.specs.{Events.events_of, Weights.need_at}

-- nothing at first, and in each later round what the event costs at the weights of the round before, if a step costs k
abbrev pub rank_in : ℕ → PlanView → ℕ → EventId → ℕ
rank_in k plan zero e = 0
rank_in k plan (suc round) e = need_at k plan (rank_in k plan round) e

-- after as many rounds as there are events
abbrev pub rank_at : ℕ → PlanView → EventId → ℕ
rank_at k plan e = rank_in k plan (length plan.events) e

-- in lines
abbrev pub rank : PlanView → EventId → ℕ
rank plan e = rank_at 0 plan e

-- the rank of each event, in the order of their numbers
abbrev pub ranks : PlanView → List ℕ
ranks plan = map (rank plan) (events_of plan)
