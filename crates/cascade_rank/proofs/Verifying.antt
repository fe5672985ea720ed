-- Weights that are verified or refused, case by case.
use Rattle.std.proofs.Common.{rules, ◌≡◌, ◌≢◌, ℕ, ◌<◌, ◌≤◌, true, false, nat_le, List, length, Option, Some, None}
use Rattle.std.proofs.{Common.{IfSome, IfNone, ok_or, Result, Ok, Err, ap, ◌∙◌, subst}, lemmas.Bool.false_from_ne_true}
use Rattle.std.specs.List.{All, list_all}
use Rattle.std.proofs.lemmas.Bool.{cond-true, cond-false, cond_both, eq-eqb, ne_eqb, eqb-true, eqb-false, lt-ltb}
use Rattle.std.proofs.lemmas.Bool.{le-ltb, ltb-true, ltb-false, le-leb, leb-true, and_from, and_parts, both_ways}
use Rattle.std.proofs.lemmas.List.{Elements.All-weaker, Sums.{AllPass-from_list_all, list_all-from_AllPass}}
use Rattle.plan_tables.specs.{PlanView.PlanView, declared.entries.EventId.EventId}
use Rattle.cascade_rank.specs.declared.{fault.RankFault.TheVariants.BoundTooLarge, verdict.Bound.Bound}
use Rattle.cascade_rank.specs.{Events.weight_of, Cycle.first_event, View.GivesBound}
use Rattle.cascade_rank.specs.Weights.{greatest, need, IsFitting, bound_of, IsWithinLimit}
use Rattle.cascade_rank.specs.Finding.{RankView, bound_too_large, short, wrong_events, is_within_limit, is_short}
use Rattle.cascade_rank.specs.{Finding.{verified_past, verified_at}, Verified.{IsVerified, IsFirstShort, IsUnverified}}
use Rattle.cascade_rank.proofs.FirstEvent.{first_event-Some, first_event-None, first_event-first, first_event-nothing}

-- ---- weights within the limit

pub All-are_limited : (ws : List ℕ) → All (λ w. w ≤ greatest) ws → list_all (λ w. nat_le w greatest) ws ≡ true
All-are_limited ws h = search (rules, list_all-from_AllPass, nat_le, All-weaker, le-leb)

module _ (plan : PlanView) (ws : List ℕ) where
  pub IsWithinLimit-from_test : is_within_limit plan ws ≡ true → IsWithinLimit plan ws
  IsWithinLimit-from_test h = search (rules, and_parts, nat_le, All-weaker, leb-true, AllPass-from_list_all)

  pub is_within_limit-true : IsWithinLimit plan ws → is_within_limit plan ws ≡ true
  is_within_limit-true h = and_from _ _ (All-are_limited ws h.weights_within)
      (le-leb (bound_of plan (weight_of ws)) greatest h.bound_within)

  pub is_within_limit-false : ¬ (IsWithinLimit plan ws) → is_within_limit plan ws ≡ false
  is_within_limit-false above = false_from_ne_true (is_within_limit plan ws) (λ t. above (IsWithinLimit-from_test t))

  -- ---- events that weigh too little

  pub first_short-Some : (e : EventId) → first_event plan (is_short plan ws) ≡ Some e
      → IsFirstShort plan ws e (need plan (weight_of ws) e)
  first_short-Some e h = search (rules, first_event-Some, ltb-true, ltb-false)

  pub first_short-None : first_event plan (is_short plan ws) ≡ None → IsFitting plan (weight_of ws)
  first_short-None h e lt = ltb-false (weight_of ws e) (need plan (weight_of ws) e)
      (first_event-None plan (is_short plan ws) h e lt)

  pub first_short-first : (e : EventId) (needed : ℕ) → IsFirstShort plan ws e needed
      → first_event plan (is_short plan ws) ≡ Some e
  first_short-first e needed h =
      let light : weight_of ws e < need plan (weight_of ws) e =
      subst (λ (n : ℕ). weight_of ws e < n) h.needed_is h.short_is in
      first_event-first plan (is_short plan ws) e h.within (record {
        holds = lt-ltb (weight_of ws e) (need plan (weight_of ws) e) light;
        least = λ d lt. le-ltb (weight_of ws d) (need plan (weight_of ws) d) (h.first d lt);
      })

  pub first_short-nothing : IsFitting plan (weight_of ws) → first_event plan (is_short plan ws) ≡ None
  first_short-nothing fits = first_event-nothing plan (is_short plan ws)
      (λ e lt. le-ltb (weight_of ws e) (need plan (weight_of ws) e) (fits e lt))

  -- ---- what verifying gives, from what it means

  verified_at-past : length ws ≡ length plan.events → (found : Option EventId)
      → first_event plan (is_short plan ws) ≡ found → verified_at plan ws ≡ verified_past plan ws found
  unfolding verified_at
  verified_at-past count found is = cond-true _ _ _ (eq-eqb (length ws) (length plan.events) count)
      ∙ ap (verified_past plan ws) is

  pub verified_at-wrong : length ws ≢ length plan.events → verified_at plan ws ≡ Err wrong_events
  unfolding verified_at
  verified_at-wrong differ = cond-false _ _ _ (ne_eqb (length ws) (length plan.events) differ)

  pub verified_at-short : length ws ≡ length plan.events → (e : EventId) (needed : ℕ) → IsFirstShort plan ws e needed
      → verified_at plan ws ≡ Err (short e needed)
  verified_at-short count e needed h = rw h.needed_is (verified_at-past count (Some e) (first_short-first e needed h))

  pub verified_at-above : length ws ≡ length plan.events → IsFitting plan (weight_of ws) → ¬ (IsWithinLimit plan ws)
      → verified_at plan ws ≡ Err bound_too_large
  verified_at-above count fits above = verified_at-past count None (first_short-nothing fits)
      ∙ cond-false _ _ _ (is_within_limit-false above)

  pub verified_at-bound : (bound : ℕ) → IsVerified plan ws bound → verified_at plan ws ≡ Ok bound
  verified_at-bound bound h =
      rw h.bound_is (verified_at-past h.count None (first_short-nothing h.fits)
      ∙ cond-true _ _ _ (is_within_limit-true h.limit))

  -- what is answered once no event weighs too little
  pub GivesBound-limited : length ws ≡ length plan.events → IsFitting plan (weight_of ws) → (bound : Option Bound)
      → IfSome bound (λ b. IsWithinLimit plan ws × (b.0 ≡ bound_of plan (weight_of ws)))
      → IfNone bound (¬ (IsWithinLimit plan ws)) → GivesBound (ok_or bound BoundTooLarge) (verified_at plan ws)
  GivesBound-limited count fits bound within above = search (rules, verified_at-bound, verified_at-above)

  -- ---- what it means, from what verifying gives

  abbrev Means : Result ℕ RankView → Type 0
  Means (Ok bound) = IsVerified plan ws bound
  Means (Err fault) = IsUnverified plan ws fault

  means-limited : length ws ≡ length plan.events → IsFitting plan (weight_of ws) → Means (verified_past plan ws None)
  means-limited count fits = search (rules, cond_both, IsWithinLimit-from_test, both_ways, is_within_limit-true)

  means-past : length ws ≡ length plan.events → (found : Option EventId) → first_event plan (is_short plan ws) ≡ found
      → Means (verified_past plan ws found)
  means-past count found h = search (rules, first_short-Some, means-limited, first_short-None)

  means : Means (verified_at plan ws)
  unfolding verified_at
  means = search (rules, cond_both, means-past, eqb-true, eqb-false)

  pub IsVerified-from_verified_at : (bound : ℕ) → verified_at plan ws ≡ Ok bound → IsVerified plan ws bound
  IsVerified-from_verified_at bound h = subst Means h means

  pub IsUnverified-from_verified_at : (fault : RankView) → verified_at plan ws ≡ Err fault → IsUnverified plan ws fault
  IsUnverified-from_verified_at fault h = subst Means h means
