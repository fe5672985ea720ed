-- What is found for a plan, and for given weights.
use Rattle.std.specs.Prelude.{ℕ, ◌==◌, nat_lt, nat_le, Bool, ◌&&◌, if◌then◌else◌, Option, Some, None, List, length}
use Rattle.std.specs.{Prelude.{Result, Ok, Err}, List.list_all}
use Rattle.plan_tables.specs.{PlanView.PlanView, declared.entries.EventId.EventId}
use Rattle.cascade_rank.specs.{Events.weight_of, Weights.{need, bound_of, greatest}, Ranks.ranks}
use Rattle.cascade_rank.specs.Cycle.{first_event, first_open, cycle_of}

-- why there are no weights, or why these do not serve
pub data RankView : Type 0 where
  -- these events lead to each other
  cycle : (events : List EventId) → RankView
  -- a weight or the bound is above the limit
  bound_too_large : RankView
  -- the event weighs less than it needs
  short : (event : EventId) (least_weight : ℕ) → RankView
  -- there are not as many weights as events
  wrong_events : RankView

abbrev pub is_within_limit : PlanView → List ℕ → Bool
is_within_limit plan weights = list_all (λ w. nat_le w greatest) weights
    && nat_le (bound_of plan (weight_of weights)) greatest

-- ---- the least weights

abbrev pub limit_weights : PlanView → List ℕ → Result (List ℕ) RankView
limit_weights plan weights = if is_within_limit plan weights then Ok weights else Err bound_too_large

-- an event that is not grounded is reported before a weight above the limit
abbrev pub found_past : PlanView → Option EventId → Result (List ℕ) RankView
found_past plan (Some e) = Err (cycle (cycle_of plan e))
found_past plan None = limit_weights plan (ranks plan)

unfoldable pub found_at : PlanView → Result (List ℕ) RankView
found_at plan = found_past plan (first_open plan)

-- ---- the bound of weights

abbrev pub is_short : PlanView → List ℕ → EventId → Bool
is_short plan weights e = nat_lt (weight_of weights e) (need plan (weight_of weights) e)

abbrev pub limited_bound : PlanView → List ℕ → Result ℕ RankView
limited_bound plan weights = if is_within_limit plan weights then Ok (bound_of plan (weight_of weights)) else Err
    bound_too_large

-- the first event that weighs too little is reported before a weight above the limit
abbrev pub verified_past : PlanView → List ℕ → Option EventId → Result ℕ RankView
verified_past plan weights (Some e) = Err (short e (need plan (weight_of weights) e))
verified_past plan weights None = limited_bound plan weights

unfoldable pub verified_at : PlanView → List ℕ → Result ℕ RankView
verified_at plan weights = if length weights == length plan.events then verified_past plan weights
    (first_event plan (is_short plan weights)) else Err wrong_events
