-- Handlers by priority are in plan order, and no other order of them is.
use Rattle.std.proofs.Common.{rules, ◌≡◌, ℕ, zero, suc, ◌+◌, ◌<◌, ◌≤◌, ◌⊎◌, nat_lt, Bool, List, [], ◌∷◌, length, map}
use Rattle.std.proofs.Common.{filter, get_or, refl, ap₂, sym, subst, ◌∙◌, inl, inr, arith}
use Rattle.std.specs.List.{All, AllPairs, range_with_len}
use Rattle.std.proofs.lemmas.{Bool.{cond_both, ltb-true, ltb-false}, List.{length-map, Elements.{All-cons, All-map}}}
use Rattle.std.proofs.lemmas.List.{Kept.{AllPairs-cons, AllPairs-filter}, FromFn.length-range_with_len}
use Rattle.std.proofs.lemmas.List.Sorted.{IsPermutation-sym, All-permutation, length_permutation}
use Rattle.plan_tables.specs.{declared.entries.{EventId.EventId, BindingId.BindingId}, PlanView.{PlanView, places_of}}
use Rattle.event_queue.specs.Handlers.{runs_at, handlers, priority_at}
use Rattle.event_queue.specs.{OrderedLists.all_places, PlanOrder.HandlersAreInPlanOrder}
use Rattle.event_queue.specs.PlanOrder.{RunsBefore, IsPlanOrder, insert_place, by_priority, in_order}
use Rattle.event_queue.proofs.Sort.{insert_place-permutes, by_priority-permutes, by_priority-is_order}

-- ---- places in their own order

abbrev pub IsBelow : BindingId → BindingId → Type 0
IsBelow p q = p.0 < q.0

from : (n a : ℕ) → All (λ m. a ≤ m) (range_with_len a n)
from zero a k d within = absurd (omega arith)
from (suc n) a zero d within = omega arith
from (suc n) a (suc k) d within = let above : a + 1 ≤ get_or (range_with_len (a + 1) n) k d =
    from n (a + 1) k d (omega arith) in omega arith

range-increases : (n a : ℕ) → AllPairs (λ x y. x < y) (range_with_len a n)
range-increases zero a = λ i j d before within. absurd (omega arith)
range-increases (suc n) a =
    AllPairs-cons (λ x y. x < y) a (range_with_len (a + 1) n)
    (λ k d within. let above = from n (a + 1) k d within in omega arith) (range-increases n (a + 1))

places-increase : (ns : List ℕ) → AllPairs (λ x y. x < y) ns → AllPairs IsBelow (map (λ n. record { 0 = n }) ns)
places-increase [] h = λ i j d before within. absurd (omega arith)
places-increase (n ∷ ns) h =
    AllPairs-cons IsBelow (record { 0 = n }) (map (λ m. record { 0 = m }) ns)
    (All-map (IsBelow (record { 0 = n })) (λ m. record { 0 = m }) ns
    (λ k d within. h 0 (suc k) d (omega arith) (omega arith)))
    (places-increase ns (λ i j d before within. h (suc i) (suc j) d (omega arith) (omega arith)))

pub all_places-increase : (plan : PlanView) → AllPairs IsBelow (all_places plan)
all_places-increase plan = places-increase (range_with_len 0 (length plan.bindings))
    (range-increases (length plan.bindings) 0)

pub places_of-increase : (plan : PlanView) (e : EventId) → AllPairs IsBelow (places_of plan e)
places_of-increase plan e = search (rules, places-increase, AllPairs-filter, range-increases)

handlers-increase : (plan : PlanView) (running : List Bool) (e : EventId) → AllPairs IsBelow (handlers plan running e)
handlers-increase plan running e = AllPairs-filter IsBelow (runs_at plan running) (places_of plan e)
    (places_of-increase plan e)

-- ---- by priority, each runs before all after it

module _ (plan : PlanView) where
  before-trans : (p q r : BindingId) → RunsBefore plan p q → RunsBefore plan q r → RunsBefore plan p r
  before-trans p q r x1 x2 = search rules

  pub before-or : (p q : BindingId) → priority_at plan q ≤ priority_at plan p → IsBelow p q → RunsBefore plan p q
  before-or p q le below = search rules

  tail : (R : BindingId → BindingId → Type 0) (p : BindingId) (ps : List BindingId) → AllPairs R (p ∷ ps)
      → AllPairs R ps
  tail R p ps h i j d before within = h (suc i) (suc j) d (omega arith) (omega arith)

  head : (R : BindingId → BindingId → Type 0) (p : BindingId) (ps : List BindingId) → AllPairs R (p ∷ ps) → All (R p) ps
  head R p ps h k d within = h 0 (suc k) d (omega arith) (omega arith)

  insert-ordered : (p : BindingId) (qs : List BindingId) → All (IsBelow p) qs → AllPairs (RunsBefore plan) qs
      → AllPairs (RunsBefore plan) (insert_place plan p qs)
  insert-ordered p [] below h = λ i j d before within. absurd (omega arith)
  insert-ordered p (q ∷ qs) below h =
      let x = priority_at plan p in
      let y = priority_at plan q in
      let after = head (RunsBefore plan) q qs h in
      cond_both (nat_lt x y) (q ∷ insert_place plan p qs) (p ∷ q ∷ qs) (AllPairs (RunsBefore plan))
      (λ e.
      let lt = ltb-true x y e in
      AllPairs-cons (RunsBefore plan) q (insert_place plan p qs)
      (All-permutation (RunsBefore plan q) (p ∷ qs) (insert_place plan p qs) (insert_place-permutes plan p qs)
      (All-cons (RunsBefore plan q) p qs (inl lt) after))
      (insert-ordered p qs (λ k d within. below (suc k) d (omega arith)) (tail (RunsBefore plan) q qs h)))
      (λ e.
      let first = before-or p q (ltb-false x y e) (below 0 p (omega arith)) in
      AllPairs-cons (RunsBefore plan) p (q ∷ qs)
      (All-cons (RunsBefore plan p) q qs first
      (λ k d within. before-trans p q (get_or qs k d) first (after k d within))) h)

  by_priority-ordered : (ps : List BindingId) → AllPairs IsBelow ps → AllPairs (RunsBefore plan) (by_priority plan ps)
  by_priority-ordered [] h = λ i j d before within. absurd (omega arith)
  by_priority-ordered (p ∷ ps) h =
      insert-ordered p (by_priority plan ps)
      (All-permutation (IsBelow p) ps (by_priority plan ps) (by_priority-permutes plan ps) (head IsBelow p ps h))
      (by_priority-ordered ps (tail IsBelow p ps h))

  -- ---- there is one such order

  one_way : {A : Type 0} (p q : BindingId) → RunsBefore plan p q → RunsBefore plan q p → A
  one_way p q x1 x2 = search rules

  -- what holds of all these places holds of all those
  abbrev pub AreAmong : List BindingId → List BindingId → Type 1
  AreAmong ps qs = (P : BindingId → Type 0) → All P ps → All P qs

  starts : (p : BindingId) (ps : List BindingId) → AllPairs (RunsBefore plan) (p ∷ ps)
      → All (λ r. (p ≡ r) ⊎ RunsBefore plan p r) (p ∷ ps)
  starts p ps h = All-cons (λ r. (p ≡ r) ⊎ RunsBefore plan p r) p ps (inl refl)
      (λ k d within. inr (h 0 (suc k) d (omega arith) (omega arith)))

  same-start : (p q : BindingId) → (p ≡ q) ⊎ RunsBefore plan p q → (q ≡ p) ⊎ RunsBefore plan q p → p ≡ q
  same-start p q x1 x2 = search rules

  among-rest : (p q : BindingId) (ps qs : List BindingId) → p ≡ q → AllPairs (RunsBefore plan) (q ∷ qs)
      → AreAmong (p ∷ ps) (q ∷ qs) → AreAmong ps qs
  among-rest p q ps qs same h among P all k d within =
      by (get_or qs k d) (h 0 (suc k) d (omega arith) (omega arith))
      (among (λ r. (p ≡ r) ⊎ P r) (All-cons (λ r. (p ≡ r) ⊎ P r) p ps (inl refl)
      (λ i c inside. inr (all i c inside))) (suc k) d (omega arith))
    where
      by : (r : BindingId) → RunsBefore plan q r → (p ≡ r) ⊎ P r → P r
      by r before (inl is) = let again : RunsBefore plan q q = subst (RunsBefore plan q) (sym is ∙ same) before
          in one_way q q again again
      by r before (inr holds) = holds

  -- it holds of no place
  abbrev IsNever : BindingId → Type 0
  IsNever p = p.0 < 0

  pub one_order : (ps qs : List BindingId) → AllPairs (RunsBefore plan) ps → AllPairs (RunsBefore plan) qs
      → AreAmong ps qs → AreAmong qs ps → ps ≡ qs
  one_order [] [] h k there back = refl
  one_order [] (q ∷ qs) h k there back = let none : IsNever q =
      there IsNever (λ i d within. absurd (omega arith)) 0 q (omega arith) in absurd (omega arith)
  one_order (p ∷ ps) [] h k there back = let none : IsNever p =
      back IsNever (λ i d within. absurd (omega arith)) 0 p (omega arith) in absurd (omega arith)
  one_order (p ∷ ps) (q ∷ qs) h k there back =
      let same : p ≡ q = same-start p q (there (λ r. (p ≡ r) ⊎ RunsBefore plan p r) (starts p ps h) 0 q (omega arith))
      (back (λ r. (q ≡ r) ⊎ RunsBefore plan q r) (starts q qs k) 0 p (omega arith)) in
      ap₂ (λ (r : BindingId) (rs : List BindingId). r ∷ rs) same
      (one_order ps qs (tail (RunsBefore plan) p ps h) (tail (RunsBefore plan) q qs k)
      (among-rest p q ps qs same k there) (among-rest q p qs ps (sym same) h back))

  pub plan_order-only : (places ps qs : List BindingId) → IsPlanOrder plan places ps → IsPlanOrder plan places qs
      → ps ≡ qs
  plan_order-only places ps qs a b = search (rules, one_order, All-permutation, IsPermutation-sym)

  -- an event's handlers are in plan order
  pub in_order-is : (running : List Bool) (e : EventId)
      → IsPlanOrder plan (handlers plan running e) (in_order plan running e)
  in_order-is running e =
      record {
        permutation = by_priority-permutes plan (handlers plan running e);
        in_order = by_priority-ordered (handlers plan running e) (handlers-increase plan running e);
      }

pub handlers_are_in_plan_order : HandlersAreInPlanOrder
handlers_are_in_plan_order = search (rules, in_order-is, plan_order-only, by_priority-is_order)

-- ---- an event has no more handlers than the plan has bindings

pub filter-shorter : {X : Type 0} (p : X → Bool) (xs : List X) → length (filter p xs) ≤ length xs
filter-shorter p [] = omega arith
filter-shorter p (x ∷ xs) =
    let rest = filter-shorter p xs in
    cond_both (p x) (x ∷ filter p xs) (filter p xs) (λ ys. length ys ≤ suc (length xs)) (λ _. omega arith)
    (λ _. omega arith)

module _ (plan : PlanView) where
  pub priority-length : (ps : List BindingId) → length (by_priority plan ps) ≡ length ps
  priority-length ps = length_permutation ps (by_priority plan ps) (by_priority-permutes plan ps)

  pub in_order-count : (running : List Bool) (e : EventId) → length (in_order plan running e) ≤ length plan.bindings
  in_order-count running e = search (rules, priority-length, filter-shorter, length-map, length-range_with_len)
