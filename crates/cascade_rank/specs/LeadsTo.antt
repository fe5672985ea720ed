-- Which events an event leads to, and events that lead to each other without end.
use Rattle.std.specs.{Prelude.{◌≡◌, ℕ, zero, suc, ◌+◌, ◌-◌, ◌<◌, Bool, true, false, not, List, length}, List.All}
use Rattle.plan_tables.specs.{PlanView.PlanView, declared.entries.EventId.EventId}
use Rattle.cascade_rank.specs.{Events.nth_event, Cost.{mentions, all_mentioned, cost_of_event}, Weights.IsFitting}

-- e leads to f if the weight of f is in what e costs
abbrev pub leads : PlanView → EventId → EventId → Bool
leads plan e f = mentions f (cost_of_event plan e)

-- whether each chain of events that begins with e, each leading to the next, has at most k events
abbrev pub grounded_in : PlanView → ℕ → EventId → Bool
grounded_in plan zero e = false
grounded_in plan (suc k) e = all_mentioned (grounded_in plan k) (cost_of_event plan e)

-- whether each such chain ends: in a valid plan, one of more events than the plan has comes back to one of them, and so
-- can go round for ever
abbrev pub is_grounded : PlanView → EventId → Bool
is_grounded plan e = grounded_in plan (length plan.events) e

-- whether one can go on from e without end
abbrev pub is_open : PlanView → EventId → Bool
is_open plan e = not (is_grounded plan e)

-- events that lead to each other in a ring, in this order
pub record IsCycle (plan : PlanView) (events : List EventId) : Type 0 where
  pub some : 0 < length events
  pub within : All (λ e. e.0 < length plan.events) events
  pub next : (i : ℕ) → i + 1 < length events → leads plan (nth_event events i) (nth_event events (i + 1)) ≡ true
  pub back : leads plan (nth_event events (length events - 1)) (nth_event events 0) ≡ true

-- no weights fit
abbrev pub HasNoFit : PlanView → Type 0
HasNoFit plan = (w : EventId → ℕ) → ¬ (IsFitting plan w)
