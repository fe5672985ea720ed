-- The places of what is bound to an event: what is at them is bound to it, in plan order.
use Rattle.std.proofs.Common.{rules, ◌≡◌, ℕ, suc, ◌+◌, ◌<◌, Bool, true, false, cond, ◌==◌, List, [], ◌∷◌, ◌++◌, length}
use Rattle.std.proofs.{Common.{map, filter, get_or, refl, ◌∙◌, ap, arith}, lemmas.{Bool.eqb-true, Simd.map-map}}
use Rattle.std.specs.List.{All, range_with_len}
use Rattle.std.proofs.lemmas.List.{map-append, FromFn.{length-range_with_len, get_or-range_with_len}}
use Rattle.std.proofs.lemmas.List.Elements.{All-weaker, All-map, All-filter, All-from_get_or, filter_passes}
use Rattle.plan_tables.specs.declared.entries.{EventId.EventId, BindingId.BindingId, Binding.Binding}
use Rattle.plan_tables.specs.PlanView.{PlanView, no_binding, binding_at, bound_to, places_of}

-- ---- the numbers, from one on, of the items that pass

module _ {X : Type 0} (p : X → Bool) where
  abbrev pub numbers_from : ℕ → List X → List ℕ
  numbers_from n [] = []
  numbers_from n (x ∷ xs) = cond (p x) (n ∷ numbers_from (n + 1) xs) (numbers_from (n + 1) xs)

  numbers-append : (n : ℕ) (xs ys : List X)
      → numbers_from n (xs ++ ys) ≡ numbers_from n xs ++ numbers_from (n + length xs) ys
  numbers-append n [] ys = let e : n ≡ n + 0 = omega arith in ap (λ k. numbers_from k ys) e
  numbers-append n (x ∷ xs) ys =
      let e : (n + 1) + length xs ≡ n + suc (length xs) = omega arith in
      by (p x) (numbers-append (n + 1) xs ys ∙ ap (λ k. numbers_from (n + 1) xs ++ numbers_from k ys) e)
    where
      by : (b : Bool) → numbers_from (n + 1) (xs ++ ys)
          ≡ numbers_from (n + 1) xs ++ numbers_from (n + suc (length xs)) ys
          → cond b (n ∷ numbers_from (n + 1) (xs ++ ys)) (numbers_from (n + 1) (xs ++ ys))
          ≡ cond b (n ∷ numbers_from (n + 1) xs) (numbers_from (n + 1) xs) ++ numbers_from (n + suc (length xs)) ys
      by true rest = ap (λ ns. n ∷ ns) rest
      by false rest = rest

  module _ (item : ℕ → X) (d : X) where
    -- the items stand at the numbers from n on
    abbrev Stand : ℕ → List X → Type 0
    Stand n xs = (i : ℕ) → i < length xs → item (n + i) ≡ get_or xs i d

    stands_first : (n : ℕ) (x : X) (xs : List X) → Stand n (x ∷ xs) → item n ≡ x
    stands_first n x xs stand = let e : n ≡ n + 0 = omega arith in ap item e ∙ stand 0 (omega arith)

    stand_then : (n : ℕ) (x : X) (xs : List X) → Stand n (x ∷ xs) → Stand (n + 1) xs
    stand_then n x xs stand i within = let e : (n + 1) + i ≡ n + suc i = omega arith in ap item e
        ∙ stand (suc i) (omega arith)

    -- they are those of the numbers at which an item passes
    numbers-filter : (n : ℕ) (xs : List X) → Stand n xs
        → filter (λ k. p (item k)) (range_with_len n (length xs)) ≡ numbers_from n xs
    numbers-filter n [] stand = refl
    numbers-filter n (x ∷ xs) stand =
        let first = stands_first n x xs stand in
        let rest = numbers-filter (n + 1) xs (stand_then n x xs stand) in
        λ i. cond (p (first i)) (n ∷ rest i) (rest i)

    -- what stands at them are the items that pass
    numbers-map : (n : ℕ) (xs : List X) → Stand n xs → map item (numbers_from n xs) ≡ filter p xs
    numbers-map n [] stand = refl
    numbers-map n (x ∷ xs) stand = by (p x) (numbers-map (n + 1) xs (stand_then n x xs stand))
      where
        by : (b : Bool) → map item (numbers_from (n + 1) xs) ≡ filter p xs
            → map item (cond b (n ∷ numbers_from (n + 1) xs) (numbers_from (n + 1) xs))
            ≡ cond b (x ∷ filter p xs) (filter p xs)
        by true rest = λ i. stands_first n x xs stand i ∷ rest i
        by false rest = rest

-- ---- the places among bindings

abbrev on : EventId → Binding → Bool
on e b = b.event.0 == e.0

-- the places of the bindings on the event
abbrev pub places_among : List Binding → EventId → List BindingId
places_among bindings e = map (λ n. record { 0 = n }) (numbers_from (on e) 0 bindings)

-- one binding more has its place if it is on the event
pub places_among-more : (bindings : List Binding) (b : Binding) (e : EventId)
    → places_among (bindings ++ b ∷ []) e ≡ places_among bindings e
    ++ cond (b.event.0 == e.0) (record { 0 = length bindings } ∷ []) []
places_among-more bindings b e = search (rules, numbers-append, map-append)

-- ---- the places of what is bound to an event of a plan

module _ (plan : PlanView) (e : EventId) where
  -- the binding of a number
  abbrev at : ℕ → Binding
  at n = binding_at plan (record { 0 = n })

  stand : (i : ℕ) → i < length plan.bindings → at (0 + i) ≡ get_or plan.bindings i no_binding
  stand i within = let here : 0 + i ≡ i = omega arith in ap at here

  numbers : filter (λ n. on e (at n)) (range_with_len 0 (length plan.bindings)) ≡ numbers_from (on e) 0 plan.bindings
  numbers = numbers-filter (on e) at no_binding 0 plan.bindings stand

  pub places_of-among : places_of plan e ≡ places_among plan.bindings e
  places_of-among = ap (map (λ n. record { 0 = n })) numbers

  -- what stands at the places is what is bound to the event
  pub places_of-bound : map (λ p. binding_at plan p) (places_of plan e) ≡ bound_to plan e
  places_of-bound =
      map-map (λ (p : BindingId). binding_at plan p) (λ n. record { 0 = n })
      (filter (λ n. on e (at n)) (range_with_len 0 (length plan.bindings)))
      ∙ ap (map at) numbers
      ∙ numbers-map (on e) at no_binding 0 plan.bindings stand

  -- each is that of a binding
  pub places_of-within : All (λ p. p.0 < length plan.bindings) (places_of plan e)
  places_of-within =
      let count = length plan.bindings in
      let bound : ℕ → Bool = λ n. on e (at n) in
      All-map (λ (p : BindingId). p.0 < count) (λ n. record { 0 = n }) (filter bound (range_with_len 0 count))
      (All-filter bound (λ n. n < count) (range_with_len 0 count)
      (All-from_get_or (λ n. n < count) (range_with_len 0 count) 0 (λ i within.
      let small : i < count = omega (arith, within, length-range_with_len 0 count) in
      omega (arith, get_or-range_with_len 0 count i 0 small))))

  -- each is that of a binding on the event
  pub places_of-on : All (λ p. (binding_at plan p).event.0 ≡ e.0) (places_of plan e)
  places_of-on =
      let bound : ℕ → Bool = λ n. on e (at n) in
      let there = filter bound (range_with_len 0 (length plan.bindings)) in
      All-map (λ (p : BindingId). (binding_at plan p).event.0 ≡ e.0) (λ n. record { 0 = n }) there
      (All-weaker (λ n. bound n ≡ true) (λ n. (at n).event.0 ≡ e.0) (λ n. eqb-true (at n).event.0 e.0) there
      (filter_passes bound (range_with_len 0 (length plan.bindings))))
