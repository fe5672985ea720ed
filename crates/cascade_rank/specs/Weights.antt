-- Weights that bound what each event leads to.
use Rattle.std.specs.{Prelude.{◌≡◌, ℕ, ◌<◌, ◌≤◌, List, length, map}, List.All}
use Rattle.plan_tables.specs.{PlanView.PlanView, declared.entries.{EventId.EventId, SwitchId.SwitchId}}
use Rattle.cascade_rank.specs.Events.{weight_of}
use Rattle.cascade_rank.specs.Cost.{price_at, price, cost_of_event, cost_of_stimuli, cost_of_switch, switches_of}

-- the greatest weight and the greatest bound that are accepted
abbrev pub greatest : ℕ
greatest = 100000

-- what the event e costs at these weights, if a step costs k
abbrev pub need_at : ℕ → PlanView → (EventId → ℕ) → EventId → ℕ
need_at k plan w e = price_at k w (cost_of_event plan e)

-- what it costs in lines
abbrev pub need : PlanView → (EventId → ℕ) → EventId → ℕ
need plan w e = need_at 0 plan w e

-- each event weighs at least what it costs
abbrev pub IsFittingAt : ℕ → PlanView → (EventId → ℕ) → Type 0
IsFittingAt k plan w = (e : EventId) → e.0 < length plan.events → need_at k plan w e ≤ w e

abbrev pub IsFitting : PlanView → (EventId → ℕ) → Type 0
IsFitting plan w = IsFittingAt 0 plan w

-- the least fitting weights, in the order of the events' numbers
pub record IsLeastFitting (plan : PlanView) (weights : List ℕ) : Type 0 where
  pub count : length weights ≡ length plan.events
  pub fits : IsFitting plan (weight_of weights)
  pub least : (v : EventId → ℕ) → IsFitting plan v → (e : EventId) → e.0 < length plan.events
      → weight_of weights e ≤ v e

-- the greatest price of a stimulus
abbrev pub bound_at : ℕ → PlanView → (EventId → ℕ) → ℕ
bound_at k plan w = price_at k w (cost_of_stimuli plan)

abbrev pub bound_of : PlanView → (EventId → ℕ) → ℕ
bound_of plan w = bound_at 0 plan w

-- what a change of the switch costs at these weights: the greater of the costs of its activation and its
-- deactivation
abbrev pub switch_cost : PlanView → (EventId → ℕ) → SwitchId → ℕ
switch_cost plan w s = price w (cost_of_switch plan s)

-- these costs, by the numbers of the switches
abbrev pub switch_costs : PlanView → (EventId → ℕ) → List ℕ
switch_costs plan w = map (switch_cost plan w) (switches_of plan)

-- no weight and no stimulus is above the limit
pub record IsWithinLimit (plan : PlanView) (weights : List ℕ) : Type 0 where
  pub weights_within : All (λ w. w ≤ greatest) weights
  pub bound_within : bound_of plan (weight_of weights) ≤ greatest
