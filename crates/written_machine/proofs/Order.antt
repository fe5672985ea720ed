-- An order of handlers costs no more than its event.
use Rattle.std.proofs.Common.{◌≡◌, ℕ, ◌+◌, ◌≤◌, Bool, not, List, [], ◌∷◌, map, refl, ap, arith}
use Rattle.std.proofs.lemmas.List.{Filters.sum_by-filter_both, Sorted.sum_by-IsPermutation}
use Rattle.plan_tables.{specs.PlanView.{PlanView, binding_at, places_of, bound_to}, proofs.BoundTo.places_of-bound}
use Rattle.plan_tables.specs.declared.entries.{EventId.EventId, BindingId.BindingId, Binding.Binding}
use Rattle.cascade_rank.specs.{Cost.{Cost, price_at, each_of, cost_of_binding, cost_of_work}, Weights.need_at}
use Rattle.cascade_rank.proofs.Prices.{price-each_sum}
use Rattle.event_queue.specs.{declared.queue.Posted.Posted, PlanOrder.by_priority}
use Rattle.mode_stack.specs.Modes.{running_of}
use Rattle.event_queue.{specs.Handlers.{takes_part, handlers, IsHandlerOrder}, proofs.Sort.by_priority-is_order}
use Rattle.written_machine.specs.{Machine.Machine, EventStep.{before_handlers, handlers_in, EventStep, after_event}}
use Rattle.written_machine.proofs.Parts.{cost_of_handler}

each_of-map : {X Y : Type 0} (f : Y → Cost) (g : X → Y) (xs : List X) (k : ℕ) (w : EventId → ℕ)
    → price_at k w (each_of f (map g xs)) ≡ price_at k w (each_of (λ x. f (g x)) xs)
each_of-map f g [] k w = refl
each_of-map f g (x ∷ xs) k w = omega (arith, each_of-map f g xs k w)

module _ (plan : PlanView) where
  -- the handlers of an event are among what is bound to it
  handlers_cost : (k : ℕ) (w : EventId → ℕ) (running : List Bool) (e : EventId)
      → price_at k w (each_of (cost_of_handler plan) (handlers plan running e))
      ≤ price_at k w (each_of (cost_of_binding plan) (bound_to plan e))
  handlers_cost k w running e =
      let f : BindingId → ℕ = λ p. price_at k w (cost_of_handler plan p) in
      let both = sum_by-filter_both (λ p. takes_part running (binding_at plan p).owner)
      (λ p. not (takes_part running (binding_at plan p).owner)) (λ p. refl) f (places_of plan e) in
      let kept = price-each_sum k w (cost_of_handler plan) (handlers plan running e) in
      let all = price-each_sum k w (cost_of_handler plan) (places_of plan e) in
      let seen = each_of-map (cost_of_binding plan) (λ p. binding_at plan p) (places_of plan e) k w in
      let bound = ap (λ (bs : List Binding). price_at k w (each_of (cost_of_binding plan) bs)) (places_of-bound plan e)
      in
      omega (arith, both, kept, all, seen, bound)

  -- the event's line, its handlers in any order and the machine's work are within what the event costs
  pub order_cost : (k : ℕ) (w : EventId → ℕ) (s : Machine) (e : EventId) (order : List BindingId)
      → IsHandlerOrder plan (handlers_in plan s e) order
      → 1 + price_at k w (each_of (cost_of_handler plan) order) + price_at k w (cost_of_work plan e)
      ≤ need_at k plan w e
  order_cost k w s e order h =
      let running = running_of s.modes in
      let same = sum_by-IsPermutation (λ p. price_at k w (cost_of_handler plan p)) (handlers plan running e) order
      h.permutation in
      let kept = price-each_sum k w (cost_of_handler plan) (handlers plan running e) in
      let total = price-each_sum k w (cost_of_handler plan) order in
      omega (arith, same, kept, total, handlers_cost k w running e)

  -- so an event step is there if an event waits
  pub plan_order-step : (s : Machine) (first : Posted) (rest : List Posted) → s.waiting ≡ first ∷ rest
      → EventStep plan s (after_event plan first rest
      (by_priority plan (handlers_in plan (before_handlers plan first rest s) first.event)) s)
  plan_order-step s first rest waits = record {
    first = first;
    rest = rest;
    waiting = waits;
    order = by_priority plan (handlers_in plan (before_handlers plan first rest s) first.event);
    in_order = by_priority-is_order plan (handlers_in plan (before_handlers plan first rest s) first.event);
    new_is = refl;
  }
