-- The lowest-numbered event of those whose weight is in a cost.
use Rattle.std.specs.Prelude.{◌≡◌, ℕ, ◌<◌, ◌==◌, true, false, min, Bool, if◌then◌else◌, List, length}
use Rattle.plan_tables.specs.{PlanView.PlanView, declared.entries.EventId.EventId}
use Rattle.cascade_rank.specs.Cost.{Cost, Lines, Step, Weight, Both, Greater, all_mentioned, cost_of_event}
use Rattle.cascade_rank.specs.{LeadsTo.{is_grounded, is_open}, Order.left_of}

-- the least number of those of which p holds, or n if there is none
abbrev pub lowest : ℕ → (EventId → Bool) → Cost → ℕ
lowest n p (Lines k) = n
lowest n p Step = n
lowest n p (Weight e) = if p e then e.0 else n
lowest n p (Both a b) = min (lowest n p a) (lowest n p b)
lowest n p (Greater a b) = min (lowest n p a) (lowest n p b)

-- each event that is not grounded leads to one
abbrev pub LeadsOn : PlanView → Type 0
LeadsOn plan = (e : EventId) → e.0 < length plan.events → is_open plan e ≡ true
    → all_mentioned (is_grounded plan) (cost_of_event plan e) ≡ false

-- something is left of the events that are not grounded, and each leads to one
pub record IsLeft (plan : PlanView) (unmet_counts : List ℕ) : Type 0 where
  pub count : length unmet_counts ≡ length plan.events
  pub grounded_is : (e : EventId) → e.0 < length plan.events → is_grounded plan e ≡ (left_of unmet_counts e == 0)
  pub leads_on : LeadsOn plan
