-- Which events lead to each event.
use Rattle.std.specs.Prelude.{◌≡◌, ℕ, ◌+◌, ◌<◌, false, ◌==◌, nat_lt, if◌then◌else◌, List, [], length, slice_index_or}
use Rattle.plan_tables.specs.{PlanView.PlanView, declared.entries.EventId.EventId}
use Rattle.cascade_rank.specs.{Cost.{Cost, cost_of_event}, Order.{unmet, occurrences, times, left_of}}

-- the events that lead to f
abbrev pub leaders_to : List (List EventId) → EventId → List EventId
leaders_to leaders f = slice_index_or leaders f.0 []

-- one event leads to each more often than before, by as often as its weight is in the cost
pub record AddsLeader (leader : EventId) (c : Cost) (old new : List (List EventId)) : Type 0 where
  pub count : length new ≡ length old
  pub more : (f e : EventId) → f.0 < length old
      → times (leaders_to new f) e ≡ times (leaders_to old f) e + (if leader.0 == e.0 then occurrences f c else 0)

-- the events with numbers below n lead to each event as often as its weight is in what they cost, and `unmet_counts`
-- counts their posts
pub record HasLeaders (plan : PlanView) (n : ℕ) (leaders : List (List EventId)) (unmet_counts : List ℕ) : Type 0 where
  pub count : length leaders ≡ length plan.events
  pub left_count : length unmet_counts ≡ n
  pub leads : (f e : EventId) → f.0 < length plan.events
      → times (leaders_to leaders f) e ≡ (if nat_lt e.0 n then occurrences f (cost_of_event plan e) else 0)
  pub left_is : (e : EventId) → e.0 < n → left_of unmet_counts e ≡ unmet (λ _. false) (cost_of_event plan e)
