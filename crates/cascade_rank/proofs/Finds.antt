-- What finding answers, case by case.
use Rattle.std.proofs.Common.{rules, ◌≡◌, ℕ, ◌+◌, ◌<◌, true, false, not, nat_lt, List, [], length, Option, Some, None}
use Rattle.std.{proofs.Common.{position, Ok, Err, sym, ◌∙◌, ap, subst, arith}, specs.Option.option_map}
use Rattle.std.proofs.lemmas.Bool.{not-false, cond-true, cond-false, both_ways}
use Rattle.plan_tables.specs.{PlanView.PlanView, Valid.HasEntries, declared.entries.EventId.EventId}
use Rattle.cascade_rank.specs.{Events.weight_of, Ranks.{rank, ranks}, LeadsTo.{is_grounded, is_open}}
use Rattle.cascade_rank.specs.{Found.IsTooDear, Lowest.IsLeft, Cycle.{IsFirst, first_open}}
use Rattle.cascade_rank.specs.Weights.{IsLeastFitting, IsWithinLimit, greatest}
use Rattle.cascade_rank.proofs.{Events.event, LeastFitting.need-agrees}
use Rattle.cascade_rank.specs.Finding.{bound_too_large, is_within_limit, found_past, found_at}
use Rattle.cascade_rank.specs.Order.{left_of, IsOrdering, IsWholeOrder, AreRanks}
use Rattle.cascade_rank.proofs.FirstEvent.{first_event-place, first_event-Some, first_event-None}
use Rattle.cascade_rank.proofs.Verifying.{is_within_limit-true, is_within_limit-false}
use Rattle.cascade_rank.proofs.{Ranking.{rank-least, rank-fits}, Firsts.{is_left, first_place}}
use Rattle.cascade_rank.proofs.Grounding.{grounded_is, open-leads, length_ranks, rank_there, limit_same, limit_ranks}

module _ (plan : PlanView) (valid : HasEntries plan) (left : List ℕ) (order : List EventId)
    (o : IsOrdering plan (length order) [] left order) where
  pub left_is_open : IsLeft plan left
  left_is_open = search (rules, grounded_is, open-leads)

  pub first_open_is : first_open plan ≡ option_map event (position (λ n. nat_lt 0 n) left)
  first_open_is =
      first_event-place plan (is_open plan)
      ∙ ap (option_map event) (first_place plan (is_open plan) (λ n. nat_lt 0 n) left 0 o.length_is
      (λ n l. ap not (grounded_is plan valid left order o (event n) l) ∙ sym (is_left (left_of left (event n)))))

  module _ (found : Option ℕ) (is : found ≡ position (λ n. nat_lt 0 n) left) where
    pub found_past_is : found_at plan ≡ found_past plan (option_map event found)
    unfolding found_at
    found_past_is = ap (found_past plan) (first_open_is ∙ sym (ap (option_map event) is))

    pub first_is_open : (n : ℕ) → found ≡ Some n → (n < length plan.events) × IsFirst (is_open plan) (event n)
    first_is_open n some = first_event-Some plan (is_open plan) (event n)
        (first_open_is ∙ ap (option_map event) (sym is ∙ some))

    module _ (none : found ≡ None) where
      pub all_grounded : (e : EventId) → e.0 < length plan.events → is_grounded plan e ≡ true
      all_grounded e l = not-false (is_grounded plan e)
          (first_event-None plan (is_open plan) (first_open_is ∙ ap (option_map event) (sym is ∙ none)) e l)

      pub whole_order : IsWholeOrder plan order
      whole_order = record {
        below = o.below;
        grounds = o.grounds;
        short = omega (arith, o.room);
        whole = λ e l. o.membership e l ∙ sym (grounded_is plan valid left order o e l) ∙ all_grounded e l;
      }

-- ---- if every event is grounded

module _ (plan : PlanView) (valid : HasEntries plan)
    (all : (e : EventId) → e.0 < length plan.events → is_grounded plan e ≡ true) where
  pub ranks_least : IsLeastFitting plan (ranks plan)
  ranks_least = record {
    count = length_ranks plan;
    fits = λ e l.
        let agree = need-agrees plan valid (weight_of (ranks plan)) (rank plan) (rank_there plan) e in
        let fits = rank-fits plan valid 0 all e l in
        omega (arith, agree, fits, rank_there plan e l);
    least = λ v fit e l.
        let low = rank-least plan valid 0 v fit (length plan.events) e l in
        omega (arith, low, rank_there plan e l);
  }

  module _ (weights : List ℕ) (are : AreRanks 0 (greatest + 1) plan weights) where
    pub found_within : IsWithinLimit plan weights → found_past plan None ≡ Ok weights
    found_within within =
        let test = is_within_limit-true plan weights within in
        cond-true (is_within_limit plan (ranks plan)) (Ok (ranks plan)) (Err bound_too_large)
        (sym (limit_same plan weights are) ∙ test) ∙ ap Ok (sym (limit_ranks plan weights are test))

    pub least_within : IsWithinLimit plan weights → IsLeastFitting plan weights
    least_within within = subst (IsLeastFitting plan)
        (sym (limit_ranks plan weights are (is_within_limit-true plan weights within))) ranks_least

    above_test : ¬ (IsWithinLimit plan weights) → is_within_limit plan (ranks plan) ≡ false
    above_test above = sym (limit_same plan weights are) ∙ is_within_limit-false plan weights above

    pub found_above : ¬ (IsWithinLimit plan weights) → found_past plan None ≡ Err bound_too_large
    found_above above = cond-false (is_within_limit plan (ranks plan)) (Ok (ranks plan)) (Err bound_too_large)
        (above_test above)

    pub too_dear : ¬ (IsWithinLimit plan weights) → IsTooDear plan
    too_dear above = search (rules, ranks_least, both_ways, above_test, is_within_limit-true)

-- the same, if none is open
pub not_open-least : (plan : PlanView) → HasEntries plan
    → ((e : EventId) → e.0 < length plan.events → is_open plan e ≡ false) → IsLeastFitting plan (ranks plan)
not_open-least plan valid none = ranks_least plan valid (λ e l. not-false (is_grounded plan e) (none e l))
