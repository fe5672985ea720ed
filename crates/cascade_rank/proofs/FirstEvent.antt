-- The first event that passes a test.
use Rattle.std.proofs.Common.{◌≡◌, ℕ, suc, ◌+◌, ◌<◌, ◌≤◌, Bool, true, false, not, cond, List, [], ◌∷◌, length, get_or}
use Rattle.std.proofs.Common.{Option, Some, None, find, position, refl, sym, ◌∙◌, ap, subst, inl, inr, arith}
use Rattle.std.specs.{List.position_or_len, Option.option_map}
use Rattle.std.proofs.lemmas.{Bool.{cond-true, cond-false, cases_lt, lt-ltb, le-ltb}, Option.none-some}
use Rattle.std.proofs.lemmas.List.{Quantifiers.position-Some, Sums.{fails_before_first, position_or_len_is}}
use Rattle.plan_tables.specs.{PlanView.PlanView, declared.entries.EventId.EventId}
use Rattle.cascade_rank.specs.{Events.{events_of, no_event}, Cycle.{IsFirst, first_event}}
use Rattle.cascade_rank.proofs.Events.{event, length-events, event_number}

-- what is found is at the first place that passes
find-at : {X : Type 0} (p : X → Bool) (xs : List X) (d : X) → position_or_len p xs < length xs
    → find p xs ≡ Some (get_or xs (position_or_len p xs) d)
find-at p [] d l = absurd (omega (arith, l))
find-at p (x ∷ xs) d l = by (p x) l (find-at p xs d)
  where
    by : (b : Bool) → cond (not b) (1 + position_or_len p xs) 0 < length (x ∷ xs)
        → (position_or_len p xs < length xs → find p xs ≡ Some (get_or xs (position_or_len p xs) d)) →
        cond b (Some x) (find p xs) ≡ Some (get_or (x ∷ xs) (cond (not b) (1 + position_or_len p xs) 0) d)
    by true k rest = refl
    by false k rest =
        let more : 1 + position_or_len p xs ≡ suc (position_or_len p xs) = omega arith in
        rest (omega (arith, k)) ∙ ap (λ (i : ℕ). Some (get_or (x ∷ xs) i d)) (sym more)

find-none : {X : Type 0} (p : X → Bool) (xs : List X) → length xs ≤ position_or_len p xs → find p xs ≡ None
find-none p [] l = refl
find-none p (x ∷ xs) l = by (p x) l (find-none p xs)
  where
    by : (b : Bool) → length (x ∷ xs) ≤ cond (not b) (1 + position_or_len p xs) 0
        → (length xs ≤ position_or_len p xs → find p xs ≡ None) → cond b (Some x) (find p xs) ≡ None
    by true k rest = absurd (omega (arith, k))
    by false k rest = rest (omega (arith, k))

module _ (plan : PlanView) (p : EventId → Bool) where
  -- the first event that passes is that of the first number that does
  pub first_event-place : first_event plan p ≡ option_map event (position p (events_of plan))
  first_event-place = elim (cases_lt (position_or_len p (events_of plan)) (length (events_of plan))) [
    | inl lt ↦
        find-at p (events_of plan) no_event lt
        ∙ ap Some (event_number plan (position_or_len p (events_of plan)) (omega (arith, lt, length-events plan)))
        ∙ sym (ap (option_map event) (cond-true _ (Some (position_or_len p (events_of plan))) None
        (lt-ltb (position_or_len p (events_of plan)) _ lt)))
    | inr ge ↦
        find-none p (events_of plan) ge
        ∙ sym (ap (option_map event) (cond-false _ (Some (position_or_len p (events_of plan))) None
        (le-ltb (position_or_len p (events_of plan)) _ ge)))
  ]

  -- what is found is the first
  pub first_event-Some : (e : EventId) → first_event plan p ≡ Some e → (e.0 < length plan.events) × IsFirst p e
  first_event-Some e h = go (position p (events_of plan)) refl (sym first_event-place ∙ h)
    where
      go : (o : Option ℕ) → position p (events_of plan) ≡ o → option_map event o ≡ Some e
          → (e.0 < length plan.events) × IsFirst p e
      go None is same = absurd (none-some e same)
      go (Some n) is same =
          let here : event n ≡ e = cc in
          let number : n ≡ e.0 = ap (λ (d : EventId). d.0) here in
          let found = position-Some p (events_of plan) e.0 no_event (is ∙ ap Some number) in
          let within : e.0 < length plan.events = omega (arith, found.0, length-events plan) in (
            within,
            record {
              holds = subst (λ (d : EventId). p d ≡ true) (event_number plan e.0 within) found.1;
              least = λ d lt. subst (λ (k : EventId). p k ≡ false) (event_number plan d.0 (omega (arith, within, lt)))
                  (found.2 d.0 lt);
            },
          )

  -- if nothing is found, no event passes
  pub first_event-None : first_event plan p ≡ None → (e : EventId) → e.0 < length plan.events → p e ≡ false
  first_event-None nothing e h =
      elim (cases_lt (position_or_len p (events_of plan)) (length (events_of plan))) [
        | inl lt ↦ absurd (none-some _ (sym nothing ∙ find-at p (events_of plan) no_event lt))
        | inr ge ↦ subst (λ (k : EventId). p k ≡ false) (event_number plan e.0 h)
            (fails_before_first p (events_of plan) e.0 no_event (omega (arith, ge, length-events plan, h)))
      ]

  -- the first event is found
  pub first_event-first : (e : EventId) → e.0 < length plan.events → IsFirst p e → first_event plan p ≡ Some e
  first_event-first e h first =
      let count = length-events plan in
      let at = position_or_len_is p (events_of plan) e.0 no_event (omega (arith, count, h))
      (λ k lt. rw (event_number plan k (omega (arith, h, lt))) (first.least (event k) lt))
      (λ _. rw (event_number plan e.0 h) first.holds) in
      let found : position p (events_of plan) ≡ Some e.0 =
      rw (at, count) (cond-true _ (Some e.0) None (lt-ltb e.0 (length plan.events) h)) in
      first_event-place ∙ ap (option_map event) found

  -- if no event passes, nothing is found
  pub first_event-nothing : ((e : EventId) → e.0 < length plan.events → p e ≡ false) → first_event plan p ≡ None
  first_event-nothing fails =
      let n = length plan.events in
      let count = length-events plan in
      let at = position_or_len_is p (events_of plan) n no_event (omega (arith, count))
      (λ k lt. rw (event_number plan k lt) (fails (event k) lt)) (λ lt. absurd (omega (arith, count, lt))) in
      let found : position p (events_of plan) ≡ None =
      rw (at, count) (cond-false _ (Some n) None (le-ltb n n (omega arith))) in
      first_event-place ∙ ap (option_map event) found
