-- What it means that weights serve, or do not.
use Rattle.std.specs.Prelude.{◌≡◌, ◌≢◌, ℕ, ◌<◌, ◌≤◌, List, length}
use Rattle.plan_tables.specs.{PlanView.PlanView, declared.entries.EventId.EventId}
use Rattle.cascade_rank.specs.{Events.weight_of, Weights.{need, IsFitting, bound_of, IsWithinLimit}}
use Rattle.cascade_rank.specs.Finding.{RankView, cycle, bound_too_large, short, wrong_events}

-- there is a weight for each event, they fit, they are within the limit, and the bound is theirs
pub record IsVerified (plan : PlanView) (weights : List ℕ) (bound : ℕ) : Type 0 where
  pub count : length weights ≡ length plan.events
  pub fits : IsFitting plan (weight_of weights)
  pub limit : IsWithinLimit plan weights
  pub bound_is : bound ≡ bound_of plan (weight_of weights)

-- the lowest-numbered event that weighs less than it needs, and what it needs
pub record IsFirstShort (plan : PlanView) (weights : List ℕ) (event : EventId) (least_weight : ℕ) : Type 0 where
  pub within : event.0 < length plan.events
  pub needed_is : least_weight ≡ need plan (weight_of weights) event
  pub short_is : weight_of weights event < least_weight
  pub first : (e : EventId) → e.0 < event.0 → need plan (weight_of weights) e ≤ weight_of weights e

-- another number of weights than of events is reported before an event that weighs too little, and that before the
-- limit
abbrev pub IsUnverified : PlanView → List ℕ → RankView → Type 0
IsUnverified plan weights (cycle events) = ⊥
IsUnverified plan weights bound_too_large =
    (length weights ≡ length plan.events) × IsFitting plan (weight_of weights) × (¬ (IsWithinLimit plan weights))
IsUnverified plan weights (short event least_weight) =
    (length weights ≡ length plan.events) × IsFirstShort plan weights event least_weight
IsUnverified plan weights wrong_events = length weights ≢ length plan.events
