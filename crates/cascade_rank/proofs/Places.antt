-- What is bound to an event costs as much as what is at its places.
use Rattle.std.proofs.Common.{rules, ◌≡◌, ℕ, ◌<◌, List, [], ◌∷◌, length, map, get_or, Some, refl, ap, ◌∙◌}
use Rattle.std.specs.List.{slice_get}
use Rattle.std.proofs.lemmas.{Option.{get_or_from_slice_get, slice_get_within}, List.Elements.All-get_or}
use Rattle.plan_tables.specs.PlanView.{PlanView, no_binding, binding_at, places_of, bound_to}
use Rattle.plan_tables.{specs.Valid.{IsBindingWithin, HasEntries}, proofs.BoundTo.{places_of-bound, places_of-within}}
use Rattle.plan_tables.specs.declared.entries.{EventId.EventId, BindingId.BindingId, Binding.Binding}
use Rattle.cascade_rank.specs.Cost.{Cost, Both, each_of, cost_of_binding}

pub each_of-map : {X Y : Type 0} (f : Y → Cost) (g : X → Y) (xs : List X)
    → each_of (λ x. f (g x)) xs ≡ each_of f (map g xs)
each_of-map f g [] = refl
each_of-map f g (x ∷ xs) = ap (Both (f (g x))) (each_of-map f g xs)

-- a binding of a valid plan is within it
pub binding-within : (plan : PlanView) → HasEntries plan → (n : ℕ) (b : Binding) → slice_get plan.bindings n ≡ Some b
    → IsBindingWithin plan b
binding-within plan valid n b at = search (rules, get_or_from_slice_get, All-get_or, slice_get_within)

module _ (plan : PlanView) where
  -- what the binding at a place costs
  abbrev pub cost_at_place : BindingId → Cost
  cost_at_place p = cost_of_binding plan (binding_at plan p)

  -- it is what that binding costs
  pub place-cost : (places : List BindingId) (i : ℕ) (b : Binding)
      → slice_get plan.bindings (get_or places i (record { 0 = 0 })).0 ≡ Some b
      → cost_at_place (get_or places i (record { 0 = 0 })) ≡ cost_of_binding plan b
  place-cost places i b at = ap (cost_of_binding plan)
      (get_or_from_slice_get plan.bindings (get_or places i (record { 0 = 0 })).0 b no_binding at)

  -- what is bound to an event costs what is at the places of it
  pub bound-places : (places : List BindingId) (e : EventId) → places ≡ places_of plan e
      → each_of cost_at_place places ≡ each_of (cost_of_binding plan) (bound_to plan e)
  bound-places places e are =
      ap (each_of cost_at_place) are ∙ each_of-map (cost_of_binding plan) (λ (p : BindingId). binding_at plan p)
      (places_of plan e) ∙ ap (each_of (cost_of_binding plan)) (places_of-bound plan e)

  module _ (e : EventId) (places : List BindingId) (are : places ≡ places_of plan e) where
    -- each place is that of a binding
    pub place-within : (i : ℕ) → i < length places → (get_or places i (record { 0 = 0 })).0 < length plan.bindings
    place-within i h = search (rules, All-get_or, places_of-within)
