-- The handlers of an event, one after another.
use Rattle.std.proofs.Common.{rules, ◌≡◌, ℕ, ◌+◌, ◌<◌, ◌≤◌, Bool, Option, Some, None, List, ◌∷◌, length, drop, get_or}
use Rattle.std.{proofs.Common.{inl, inr, ap, sym, ◌∙◌, subst, arith}, specs.Prelude.slice_get}
use Rattle.std.proofs.lemmas.{Bool.cases_lt, List.{drop_all, drop_more, Elements.All-get_or}}
use Rattle.std.proofs.lemmas.Option.{get_or_from_slice_get, none-some, slice_get-get_or, slice_get_within}
use Rattle.plan_tables.specs.{Valid.{HasEntries, IsBindingWithin}, PlanView.{PlanView, no_binding, binding_at}}
use Rattle.plan_tables.specs.declared.entries.{BindingId.BindingId, EventId.EventId, Binding.Binding}
use Rattle.event_queue.{specs.PlanOrder.in_order, proofs.PlanOrder.in_order-count}
use Rattle.written_machine.{specs.Machine.{all_do, do_binding, do_handler}, proofs.Growth.handler-grows}
use Rattle.machine_core.{specs.Core.{CoreView, IsWithin, after}, proofs.Room.{room-first, all_do-first}}

-- From the k-th on the handlers of an event are still to run: run now, they are all, run at the start.
module _ (running : List Bool) (start now : CoreView) (kept : start.running ≡ running) (event : EventId) (k : ℕ)
    (left : after (all_do (do_handler now.plan) (drop k (in_order start.plan running event))) now
    ≡ after (all_do (do_handler start.plan) (in_order start.plan running event)) start) where
  abbrev order : List BindingId
  order = in_order start.plan running event

  abbrev all : CoreView
  all = after (all_do (do_handler start.plan) order) start

  pub plan-now : now.plan ≡ start.plan
  plan-now = ap (λ (c : CoreView). c.plan) left

  running-now : now.running ≡ running
  running-now = ap (λ (c : CoreView). c.running) left ∙ kept

  -- what is found now is found among the handlers
  found-now : (found : Option BindingId) → found ≡ slice_get (in_order now.plan now.running event) k
      → slice_get order k ≡ found
  found-now found is = sym (is ∙ (λ i. slice_get (in_order (plan-now i) (running-now i) event) k))

  -- one more is found
  module _ (place : BindingId) (found : Some place ≡ slice_get (in_order now.plan now.running event) k) where
    pub handler-left : k < length order
    handler-left = slice_get_within order k place (found-now (Some place) found)

    rest : drop k order ≡ place ∷ drop (k + 1) order
    rest =
        drop_more order k place handler-left
        ∙ ap (λ (p : BindingId). p ∷ drop (k + 1) order)
        (get_or_from_slice_get order k place place (found-now (Some place) found))

    pub handler-place : place.0 < length now.plan.bindings → place.0 < length start.plan.bindings
    handler-place within = let count = ap (λ (p : PlanView). length p.bindings) plan-now in omega (arith, within, count)

    pub handler-count : k < length start.plan.bindings
    handler-count = let count = in_order-count start.plan running event in let within = handler-left in omega arith

    module _ (b : Binding) (is : slice_get start.plan.bindings place.0 ≡ Some b) where
      binding-is : binding_at now.plan place ≡ b
      binding-is = ap (λ (p : PlanView). binding_at p place) plan-now
          ∙ get_or_from_slice_get start.plan.bindings place.0 b no_binding is

      pub handler-room : IsWithin start.room (all_do (do_handler start.plan) order start.machine)
          → IsWithin now.room (do_binding now.plan b now.machine)
      handler-room room =
          subst (λ (c : Binding). IsWithin now.room (do_binding now.plan c now.machine)) binding-is
          (room-first do_handler handler-grows now all place (drop (k + 1) order) (drop k order) rest left room)

      module _ (then : CoreView) (then_is : then ≡ after (do_binding now.plan b) now) where
        pub handler-done : then ≡ after (do_handler now.plan place) now
        handler-done = then_is ∙ ap (λ (c : Binding). after (do_binding now.plan c) now) (sym binding-is)

        pub handler-run : after (all_do (do_handler then.plan) (drop (k + 1) order)) then ≡ all
        handler-run = all_do-first do_handler now then all place (drop (k + 1) order) (drop k order) rest left
            handler-done

  -- none is found any more
  pub handlers-end : None ≡ slice_get (in_order now.plan now.running event) k
      → now ≡ all
  handlers-end none =
      let past : length order ≤ k =
      elim (cases_lt k (length order)) [
        | inl within ↦ absurd (none-some (get_or order k (record { 0 = 0 }))
            (sym (found-now None none) ∙ slice_get-get_or order k (record { 0 = 0 }) within))
        | inr past ↦ past
      ] in
      subst (λ (ps : List BindingId). after (all_do (do_handler now.plan) ps) now ≡ all) (drop_all k order past) left

-- what a binding of the plan names is in the plan
pub binding-within : (plan : PlanView) → HasEntries plan → (place : BindingId) (b : Binding)
    → slice_get plan.bindings place.0 ≡ Some b → IsBindingWithin plan b
binding-within plan entries place b is = search (rules, get_or_from_slice_get, All-get_or, slice_get_within)
