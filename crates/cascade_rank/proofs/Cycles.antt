-- Events that lead to each other: none of them is grounded, and with them no weights fit. From an event that is not
-- grounded one comes to some.
use Rattle.std.proofs.Common.{rules, ◌≡◌, ℕ, zero, suc, ◌+◌, ◌-◌, ◌<◌, ◌≤◌, ◌⊎◌, Bool, true, false, not, ◌||◌, eqb}
use Rattle.std.proofs.Common.{◌==◌, List, [], ◌∷◌, length, map, take, All, refl, sym, ◌∙◌, ap, subst, inl, inr, arith}
use Rattle.std.proofs.{Common.length-take, lemmas.List.Sums.{fails_before_first, passes_at_first}}
use Rattle.std.specs.List.{AllByRecursion, IsDistinct, list_any, position_or_len}
use Rattle.std.proofs.lemmas.Bool.{cases_lt, eqb-true, false_from_ne_true, false≢true}
use Rattle.std.proofs.lemmas.List.{get_or-take, length-map, Folds.Any-from_list_any}
use Rattle.std.proofs.lemmas.List.Elements.{All-cons, All-take, All-get_or, All-from_get_or, recursion_from_All}
use Rattle.std.proofs.lemmas.Map.{Keys.IsDistinct-cons, Steps.length-le_from_distinct_below}
use Rattle.plan_tables.specs.{PlanView.{PlanView, bound_to}, declared.entries.EventId.EventId, Valid.HasEntries}
use Rattle.cascade_rank.specs.Cost.{Both, each_of, cost_of_binding, cost_of_work, cost_of_event}
use Rattle.cascade_rank.specs.{Events.{no_event, nth_event}, Weights.IsFitting}
use Rattle.cascade_rank.specs.LeadsTo.{leads, grounded_in, is_grounded, is_open, IsCycle, HasNoFit}
use Rattle.cascade_rank.proofs.{Prices.price-mentioned, Ranking.mentioned_below}
use Rattle.cascade_rank.proofs.Mentioned.{all_mentioned_at, all_mentioned-fails}
use Rattle.plan_tables.proofs.Worked.{number_same}

-- ---- events that lead to each other

module _ (plan : PlanView) (events : List EventId) (c : IsCycle plan events) where
  -- each leads to one of them
  goes_on : (i : ℕ) → i < length events → (j : ℕ) × (j < length events)
      × (leads plan (nth_event events i) (nth_event events j) ≡ true)
  goes_on i l = elim (cases_lt (i + 1) (length events)) [
    | inl more ↦ (i + 1, more, c.next i more)
    | inr last ↦
        let here : length events - 1 ≡ i = omega (arith, l, last) in
        (0, c.some, subst (λ (k : ℕ). leads plan (nth_event events k) (nth_event events 0) ≡ true) here c.back)
  ]

  never_grounded : (k i : ℕ) → i < length events → grounded_in plan k (nth_event events i) ≡ false
  never_grounded zero i l = refl
  never_grounded (suc k) i l =
      let (j, within, leads_there) = goes_on i l in
      false_from_ne_true (grounded_in plan (suc k) (nth_event events i)) (λ h.
      false≢true (sym (never_grounded k j within)
      ∙ all_mentioned_at (grounded_in plan k) (cost_of_event plan (nth_event events i)) (nth_event events j) h
      leads_there))

  pub cycle-open : All (λ e. is_open plan e ≡ true) events
  cycle-open = All-from_get_or (λ e. is_open plan e ≡ true) events no_event
      (λ i l. ap not (never_grounded (length plan.events) i l))

  module _ (v : EventId → ℕ) (fit : IsFitting plan v) where
    -- what an event leads to weighs less
    lead_falls : (i : ℕ) (f : EventId) → i < length events → leads plan (nth_event events i) f ≡ true
        → v f < v (nth_event events i)
    lead_falls i f l m =
        let fits = fit (nth_event events i) (All-get_or (λ e. e.0 < length plan.events) events i no_event l c.within) in
        let e = nth_event events i in
        let cost = price-mentioned 0 v (Both (each_of (cost_of_binding plan) (bound_to plan e)) (cost_of_work plan e)) f
        m in
        omega (arith, fits, cost)

    cycle_falls : (i : ℕ) → i < length events → v (nth_event events i) + i ≤ v (nth_event events 0)
    cycle_falls zero l = omega arith
    cycle_falls (suc i) l =
        let one : i + 1 ≡ suc i = omega arith in
        let next = subst (λ (n : ℕ). leads plan (nth_event events i) (nth_event events n) ≡ true) one
        (c.next i (omega (arith, l))) in
        omega (arith, cycle_falls i (omega (arith, l)), lead_falls i (nth_event events (suc i)) (omega (arith, l)) next)

  -- no weights fit
  pub cycle-no_fit : HasNoFit plan
  cycle-no_fit v fit =
      let some = c.some in
      let last : length events - 1 < length events = omega (arith, some) in
      omega (
        arith,
        cycle_falls v fit (length events - 1) last,
        lead_falls v fit (length events - 1) (nth_event events 0) last c.back,
      )

-- ---- the way from an event that is not grounded

-- whether events are one, by their numbers
abbrev pub one_number : EventId → EventId → Bool
one_number e f = e.0 == f.0

-- events from e on, each of which leads to the next, k of them after e, and none comes twice
pub record IsTrail (plan : PlanView) (e : EventId) (k : ℕ) (trail : List EventId) : Type 0 where
  pub count : length trail ≡ k + 1
  pub begins : nth_event trail 0 ≡ e
  pub below : All (λ f. f.0 < length plan.events) trail
  pub next : (i : ℕ) → i + 1 < length trail → leads plan (nth_event trail i) (nth_event trail (i + 1)) ≡ true
  pub apart : IsDistinct one_number trail

numbers-apart : (e : EventId) (xs : List EventId) → AllByRecursion (λ d. one_number e d ≡ false) xs
    → AllByRecursion (λ n. eqb e.0 n ≡ false) (map (λ (d : EventId). d.0) xs)
numbers-apart e [] h = tt
numbers-apart e (x ∷ xs) h = (h.0, numbers-apart e xs h.1)

-- events of which none comes twice have numbers of which none does
numbers-distinct : (xs : List EventId) → IsDistinct one_number xs → IsDistinct eqb (map (λ (d : EventId). d.0) xs)
unfolding IsDistinct
numbers-distinct [] h = tt
numbers-distinct (x ∷ xs) h = (numbers-apart x xs h.0, numbers-distinct xs h.1)

list_any-numbers : (q : ℕ) (xs : List EventId)
    → list_any (eqb q) (map (λ (d : EventId). d.0) xs) ≡ list_any (λ (d : EventId). q == d.0) xs
list_any-numbers q [] = refl
list_any-numbers q (x ∷ xs) = ap (λ (b : Bool). (q == x.0) || b) (list_any-numbers q xs)

module _ (plan : PlanView) where
  trail_alone : (e : EventId) → e.0 < length plan.events → IsTrail plan e 0 (e ∷ [])
  unfolding IsDistinct
  trail_alone e l = search rules

  module _ (e f : EventId) (k : ℕ) (trail : List EventId) (t : IsTrail plan f k trail)
      (leads_there : leads plan e f ≡ true) where
    -- e leads to the trail, and is on it: the part of the trail up to there is a cycle
    module _ (n : ℕ) (within : n < length trail) (here : nth_event trail n ≡ e) where
      at_start : (i : ℕ) → i < n + 1 → nth_event (take (n + 1) trail) i ≡ nth_event trail i
      at_start i l = get_or-take (n + 1) trail i no_event l

      trail_closes : IsCycle plan (take (n + 1) trail)
      trail_closes =
          let count : length (take (n + 1) trail) ≡ n + 1 = omega (arith, length-take (n + 1) trail, within) in
          record {
            some = omega (arith, count);
            within = All-take (λ d. d.0 < length plan.events) (n + 1) trail t.below;
            next = λ i l.
                subst (λ (x : EventId). leads plan x (nth_event (take (n + 1) trail) (i + 1)) ≡ true)
                (sym (at_start i (omega (arith, l, count))))
                (subst (λ (y : EventId). leads plan (nth_event trail i) y ≡ true)
                (sym (at_start (i + 1) (omega (arith, l, count)))) (t.next i (omega (arith, l, count, within))));
            back =
                let last : length (take (n + 1) trail) - 1 ≡ n = omega (arith, count) in
                subst (λ (x : EventId). leads plan x (nth_event (take (n + 1) trail) 0) ≡ true)
                (sym (ap (nth_event (take (n + 1) trail)) last ∙ at_start n (omega arith) ∙ here))
                (subst (λ (y : EventId). leads plan e y ≡ true) (sym (at_start 0 (omega arith) ∙ t.begins))
                leads_there);
          }

    -- and does not: the trail is one longer
    trail_more : e.0 < length plan.events → length trail ≤ position_or_len (one_number e) trail
        → IsTrail plan e (suc k) (e ∷ trail)
    trail_more l new = record {
      count = omega (arith, t.count);
      begins = refl;
      below = All-cons (λ d. d.0 < length plan.events) e trail l t.below;
      next = then;
      apart = IsDistinct-cons one_number e trail
          (recursion_from_All (λ d. one_number e d ≡ false) trail
          (All-from_get_or (λ d. one_number e d ≡ false) trail no_event
          (λ i h. fails_before_first (one_number e) trail i no_event (omega (arith, new, h))))) t.apart;
    }
      where
        then : (i : ℕ) → i + 1 < length (e ∷ trail)
            → leads plan (nth_event (e ∷ trail) i) (nth_event (e ∷ trail) (i + 1)) ≡ true
        then zero h = subst (λ (y : EventId). leads plan e y ≡ true) (sym t.begins) leads_there
        then (suc i) h =
            let one : suc (i + 1) ≡ suc i + 1 = omega arith in
            subst (λ (n : ℕ). leads plan (nth_event trail i) (nth_event (e ∷ trail) n) ≡ true) one
            (t.next i (omega (arith, h)))

  -- there are no more events on a trail than in the plan
  trail-short : (e : EventId) (k : ℕ) (trail : List EventId) → IsTrail plan e k trail → k < length plan.events
  trail-short e k trail t =
      let few = length-le_from_distinct_below (map (λ (d : EventId). d.0) trail) (length plan.events)
      (numbers-distinct trail t.apart) (λ q h.
      let (i, x, within, at, same) = Any-from_list_any (λ (d : EventId). q == d.0) trail
      (sym (list_any-numbers q trail) ∙ h) in
      let low = All-get_or (λ d. d.0 < length plan.events) trail i x within t.below in
      omega (arith, low, ap (λ (d : EventId). d.0) at, eqb-true q x.0 same)) in
      omega (arith, few, t.count, length-map trail (λ (d : EventId). d.0))

module _ (plan : PlanView) (valid : HasEntries plan) where
  -- from an event that is not grounded in k rounds one comes to a cycle, or goes on k times
  open-trail : (k : ℕ) (e : EventId) → e.0 < length plan.events → grounded_in plan k e ≡ false
      → ((events : List EventId) × IsCycle plan events) ⊎ ((trail : List EventId) × IsTrail plan e k trail)
  open-trail zero e l h = inr (e ∷ [], trail_alone plan e l)
  open-trail (suc k) e l h =
      let (f, m, free) = all_mentioned-fails (grounded_in plan k) (cost_of_event plan e) h in
      elim (open-trail k f (mentioned_below plan valid e f m) free) [
        | inl cycle ↦ inl cycle
        | inr found ↦
            let (trail, t) = found in
            let place = position_or_len (one_number e) trail in
            elim (cases_lt place (length trail)) [
              | inl within ↦ inl (
                take (place + 1) trail,
                trail_closes plan e f k trail t m place within
                    (sym (number_same e (nth_event trail place)
                    (passes_at_first (one_number e) trail no_event within))),
              )
              | inr new ↦ inr (e ∷ trail, trail_more plan e f k trail t m l new)
            ]
      ]

  pub open-cycle : (e : EventId) → e.0 < length plan.events → is_open plan e ≡ true
      → (events : List EventId) × IsCycle plan events
  open-cycle e l h = elim (open-trail (length plan.events) e l (by (is_grounded plan e) h)) [
    | inl cycle ↦ cycle
    | inr found ↦ absurd (omega (arith, trail-short plan e (length plan.events) found.0 found.1))
  ]
    where
      by : (b : Bool) → not b ≡ true → b ≡ false
      by true k = absurd (false≢true k)
      by false k = refl
