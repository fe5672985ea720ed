-- Places by priority: the same places, none after one of lower priority.
use Rattle.std.proofs.Common.{rules, ℕ, ◌≤◌, nat_lt, List, [], ◌∷◌, refl, arith}
use Rattle.std.specs.List.{AllByRecursion, Sorted.IsPermutation}
use Rattle.std.proofs.lemmas.{Bool.{cond_both, ltb-true, ltb-false}, List.Sorted.IsPermutation-swap}
use Rattle.std.proofs.lemmas.List.Sorted.{IsPermutation-refl, IsPermutation-cons, IsPermutation-trans}
use Rattle.plan_tables.specs.{declared.entries.BindingId.BindingId, PlanView.PlanView}
use Rattle.event_queue.specs.Handlers.{priority_at, IsDescending, IsHandlerOrder}
use Rattle.event_queue.specs.PlanOrder.{insert_place, by_priority}

module _ (plan : PlanView) where
  -- ---- the same places

  pub insert_place-permutes : (p : BindingId) (qs : List BindingId) → IsPermutation (p ∷ qs) (insert_place plan p qs)
  insert_place-permutes p [] = IsPermutation-refl (p ∷ [])
  insert_place-permutes p (q ∷ qs) =
      cond_both (nat_lt (priority_at plan p) (priority_at plan q)) (q ∷ insert_place plan p qs) (p ∷ q ∷ qs)
      (λ ys. IsPermutation (p ∷ q ∷ qs) ys)
      (λ _. IsPermutation-trans (p ∷ q ∷ qs) (q ∷ p ∷ qs) (q ∷ insert_place plan p qs)
      (IsPermutation-swap (p ∷ q ∷ qs) (q ∷ p ∷ qs) 0 1 (omega arith) (omega arith) refl)
      (IsPermutation-cons q (p ∷ qs) (insert_place plan p qs) (insert_place-permutes p qs)))
      (λ _. IsPermutation-refl (p ∷ q ∷ qs))

  pub by_priority-permutes : (ps : List BindingId) → IsPermutation ps (by_priority plan ps)
  by_priority-permutes [] = IsPermutation-refl []
  by_priority-permutes (p ∷ ps) =
      IsPermutation-trans (p ∷ ps) (p ∷ by_priority plan ps) (insert_place plan p (by_priority plan ps))
      (IsPermutation-cons p ps (by_priority plan ps) (by_priority-permutes ps))
      (insert_place-permutes p (by_priority plan ps))

  -- ---- highest priority first

  -- no priority above n
  abbrev IsAtMost : ℕ → List BindingId → Type 0
  IsAtMost n ps = AllByRecursion (λ q. priority_at plan q ≤ n) ps

  at_most-insert : (n : ℕ) (p : BindingId) (qs : List BindingId) → priority_at plan p ≤ n → IsAtMost n qs
      → IsAtMost n (insert_place plan p qs)
  at_most-insert n p [] h k = (h, tt)
  at_most-insert n p (q ∷ qs) h k =
      cond_both (nat_lt (priority_at plan p) (priority_at plan q)) (q ∷ insert_place plan p qs) (p ∷ q ∷ qs)
      (IsAtMost n)
      (λ _. (k.0, at_most-insert n p qs h k.1)) (λ _. (h, k))

  at_most-more : (n m : ℕ) (qs : List BindingId) → n ≤ m → IsAtMost n qs → IsAtMost m qs
  at_most-more n m [] h k = tt
  at_most-more n m (q ∷ qs) h k =
      let here = k.0 in
      (omega arith, at_most-more n m qs h k.1)

  insert_place-descends : (p : BindingId) (qs : List BindingId) → IsDescending plan qs
      → IsDescending plan (insert_place plan p qs)
  insert_place-descends p [] h = search rules
  insert_place-descends p (q ∷ qs) h =
      let x = priority_at plan p in
      let y = priority_at plan q in
      cond_both (nat_lt x y) (q ∷ insert_place plan p qs) (p ∷ q ∷ qs) (IsDescending plan)
      (λ e. let lt = ltb-true x y e in (at_most-insert y p qs (omega arith) h.0, insert_place-descends p qs h.1))
      (λ e. let le = ltb-false x y e in ((le, at_most-more y x qs le h.0), h))

  pub by_priority-descends : (ps : List BindingId) → IsDescending plan (by_priority plan ps)
  by_priority-descends [] = tt
  by_priority-descends (p ∷ ps) = insert_place-descends p (by_priority plan ps) (by_priority-descends ps)

  -- so they are in one of the orders in which handlers may run
  pub by_priority-is_order : (ps : List BindingId) → IsHandlerOrder plan ps (by_priority plan ps)
  by_priority-is_order ps = record { permutation = by_priority-permutes ps; descending = by_priority-descends ps }
