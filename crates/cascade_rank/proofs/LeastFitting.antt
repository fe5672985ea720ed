-- Weights that agree on the events of a plan, and that there is one list of least fitting weights at most.
use Rattle.std.proofs.Common.{◌≡◌, ℕ, ◌<◌, length}
use Rattle.plan_tables.specs.{PlanView.PlanView, Valid.HasEntries, declared.entries.EventId.EventId}
use Rattle.cascade_rank.specs.{Cost.cost_of_event, Weights.need}
use Rattle.cascade_rank.proofs.{Prices.price_agrees, Within.{IsBelow-mentioned, IsBelow-event}}

module _ (plan : PlanView) (valid : HasEntries plan) (w v : EventId → ℕ)
    (same : (e : EventId) → e.0 < length plan.events → w e ≡ v e) where
  -- weights that agree on the events of a valid plan give each event the same need, and the same bound
  pub need-agrees : (e : EventId) → need plan w e ≡ need plan v e
  need-agrees e = price_agrees 0 w v (cost_of_event plan e)
      (λ f m. same f (IsBelow-mentioned (length plan.events) (cost_of_event plan e) f (IsBelow-event plan valid e) m))
