-- Plan order: higher priorities first, and of equal priorities the lower place.
use Rattle.std.specs.Prelude.{◌≡◌, ◌<◌, nat_lt, if◌then◌else◌, ◌⊎◌, Bool, List, [], ◌∷◌}
use Rattle.std.specs.List.{AllPairs, Sorted.IsPermutation}
use Rattle.plan_tables.specs.{declared.entries.{EventId.EventId, BindingId.BindingId}, PlanView.PlanView}
use Rattle.event_queue.specs.Handlers.{handlers, priority_at, IsHandlerOrder}

-- ---- what it is

-- the binding at p runs before the one at q
abbrev pub RunsBefore : PlanView → BindingId → BindingId → Type 0
RunsBefore plan p q = (priority_at plan q < priority_at plan p)
    ⊎ ((priority_at plan p ≡ priority_at plan q) × (p.0 < q.0))

-- the order of these places in which each runs before all after it
pub record IsPlanOrder (plan : PlanView) (places order : List BindingId) : Type 0 where
  pub permutation : IsPermutation places order
  pub in_order : AllPairs (RunsBefore plan) order

-- ---- how it is computed

-- a place put before the first one of no greater priority
abbrev pub insert_place : PlanView → BindingId → List BindingId → List BindingId
insert_place plan p [] = p ∷ []
insert_place plan p (q ∷ qs) = if nat_lt (priority_at plan p) (priority_at plan q) then q
    ∷ insert_place plan p qs else p ∷ q ∷ qs

-- places by priority, highest first, equal ones as they stand
abbrev pub by_priority : PlanView → List BindingId → List BindingId
by_priority plan [] = []
by_priority plan (p ∷ ps) = insert_place plan p (by_priority plan ps)

-- an event's handlers in plan order
abbrev pub in_order : PlanView → List Bool → EventId → List BindingId
in_order plan running e = by_priority plan (handlers plan running e)

-- ---- the law

-- `in_order` is plan order, and no other order of the handlers is. It is one of the orders in which handlers may run.
pub record HandlersAreInPlanOrder : Type 0 where
  pub is : (plan : PlanView) (running : List Bool) (e : EventId)
      → IsPlanOrder plan (handlers plan running e) (in_order plan running e)
  pub only : (plan : PlanView) (running : List Bool) (e : EventId) (order : List BindingId)
      → IsPlanOrder plan (handlers plan running e) order → order ≡ in_order plan running e
  pub descends : (plan : PlanView) (running : List Bool) (e : EventId)
      → IsHandlerOrder plan (handlers plan running e) (in_order plan running e)
