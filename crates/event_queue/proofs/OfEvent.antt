-- The places of an event's handlers, in plan order.
use Rattle.std.proofs.Common.{◌≡◌, ◌<◌, ◌≤◌, Bool, List, [], ◌∷◌, length, filter, refl, ap, arith}
use Rattle.std.{specs.List.All, proofs.lemmas.List.{Elements.All-filter, Sorted.All-permutation}}
use Rattle.plan_tables.specs.declared.entries.{EventId.EventId, BindingId.BindingId}
use Rattle.plan_tables.specs.{PlanView.{PlanView, no_binding, binding_at, places_of}, Valid.IsValid}
use Rattle.plan_tables.proofs.BoundTo.{places_of-within, places_of-on}
use Rattle.event_queue.specs.{Handlers.{runs_at, handlers}, PlanOrder.{by_priority, in_order}}
use Rattle.event_queue.proofs.Sort.{by_priority-permutes}

module _ (plan : PlanView) (e : EventId) where
  pub in_order-within : (running : List Bool) → All (λ p. p.0 < length plan.bindings) (in_order plan running e)
  in_order-within running =
      All-permutation (λ p. p.0 < length plan.bindings) (handlers plan running e) (in_order plan running e)
      (by_priority-permutes plan (handlers plan running e))
      (All-filter (runs_at plan running) (λ p. p.0 < length plan.bindings) (places_of plan e) (places_of-within plan e))

  module _ (valid : IsValid plan) where
    on : (p : BindingId) → p.0 < length plan.bindings → (binding_at plan p).event.0 ≡ e.0 → e.0 < length plan.events
    on p within is = let known = (valid.entries.bindings p.0 no_binding within).0 in omega arith

    -- an event that the plan does not have has no handlers
    pub no-handlers : (running : List Bool) → length plan.events ≤ e.0 → [] ≡ in_order plan running e
    no-handlers running past = ap (λ ps. by_priority plan (filter (runs_at plan running) ps))
        (by (places_of plan e) (places_of-within plan e) (places_of-on plan e))
      where
        by : (ps : List BindingId) → All (λ p. p.0 < length plan.bindings) ps
            → All (λ p. (binding_at plan p).event.0 ≡ e.0) ps → [] ≡ ps
        by [] within is = refl
        by (p ∷ ps) within is =
            let known = on p (within 0 p (omega arith)) (is 0 p (omega arith)) in
            absurd (omega arith)
