-- The whole order has exactly the grounded events, and each can be weighed after those before it.
use Rattle.std.proofs.Common.{rules, ◌≡◌, ℕ, zero, suc, ◌+◌, ◌-◌, ◌<◌, ◌≤◌, min, Bool, true, false, not, ◌||◌, ◌==◌}
use Rattle.std.proofs.Common.{nat_le, List, [], length, take, set, refl, sym, ◌∙◌, ap, subst, inl, inr, arith, take_all}
use Rattle.std.{proofs.Common.{get_or-set_same, get_or-set_other}, specs.List.list_all}
use Rattle.std.proofs.lemmas.{List.Sums.{AllPass-from_list_all, list_all-from_AllPass}, Bool.{and_parts, false≢true}}
use Rattle.std.proofs.lemmas.Bool.{cases_eq, cases_Bool, or_cases, eqb-true, eq-eqb, leb-true, le-leb, and_left}
use Rattle.std.proofs.lemmas.List.{ext_get_or, length-map, get_or-map, Elements.All-from_get_or}
use Rattle.plan_tables.specs.{PlanView.PlanView, declared.entries.EventId.EventId, Valid.HasEntries}
use Rattle.cascade_rank.specs.Cost.{price_at, all_mentioned, cost_of_event}
use Rattle.cascade_rank.specs.{Ranks.{rank, rank_at, ranks}, Finding.is_within_limit}
use Rattle.cascade_rank.specs.Events.{events_of, no_event, nth_event, weight_of}
use Rattle.cascade_rank.specs.{Weights.{need_at, greatest, bound_of}, LeadsTo.{grounded_in, is_grounded, is_open}}
use Rattle.cascade_rank.specs.Order.{is_in, left_of, EachAfter, IsOrdering, AreRanks}
use Rattle.cascade_rank.proofs.Events.{event, same_event, length-events, event_number}
use Rattle.cascade_rank.proofs.{Prices.price_agrees, Ordering.is_in-more}
use Rattle.cascade_rank.proofs.Mentioned.{all_mentioned_at, all_mentioned-weaker, unmet-none, price-capped}
use Rattle.cascade_rank.proofs.Ranking.{grounded-more, grounded-later, rank-stable, mentioned_below}
use Rattle.plan_tables.proofs.Worked.{number_same}

same_bool : (a b : Bool) → (a ≡ true → b ≡ true) → (b ≡ true → a ≡ true) → a ≡ b
same_bool a b h k = search rules

module _ (plan : PlanView) (order : List EventId)
    (grounds : EachAfter (λ before e. all_mentioned (is_in before) (cost_of_event plan e) ≡ true) order) where
  -- the first k of the order are grounded after k rounds
  pub grounded-front : (k : ℕ) → k ≤ length order → (e : EventId) → is_in (take k order) e ≡ true
      → grounded_in plan k e ≡ true
  grounded-front zero l e h = absurd (false≢true h)
  grounded-front (suc k) l e h =
      let one : suc k ≡ k + 1 = omega arith in
      let parts = sym (is_in-more order k e (omega (arith, l))) ∙ ap (λ (n : ℕ). is_in (take n order) e) (sym one) ∙ h
      in
      elim (or_cases (is_in (take k order) e) ((nth_event order k).0 == e.0) parts) [
        | inl before ↦ grounded-more plan k e (grounded-front k (omega (arith, l)) e before)
        | inr here ↦
            subst (λ (x : EventId). grounded_in plan (suc k) x ≡ true) (number_same (nth_event order k) e here)
            (all_mentioned-weaker (is_in (take k order)) (grounded_in plan k) (cost_of_event plan (nth_event order k))
            (λ f m. grounded-front k (omega (arith, l)) f) (grounds k (omega (arith, l))))
      ]

module _ (plan : PlanView) (valid : HasEntries plan) (left : List ℕ) (order : List EventId)
    (o : IsOrdering plan (length order) [] left order) where
  short : length order ≤ length plan.events
  short = omega (arith, o.room)

  pub order-grounded : (e : EventId) → is_in order e ≡ true → is_grounded plan e ≡ true
  order-grounded e h =
      let whole : is_in (take (length order) order) e ≡ true =
      ap (λ (ds : List EventId). is_in ds e) (take_all (length order) order (omega arith)) ∙ h in
      let rounds : length order + (length plan.events - length order) ≡ length plan.events = omega (arith, short) in
      subst (λ (n : ℕ). grounded_in plan n e ≡ true) rounds
      (grounded-later plan (length order) (length plan.events - length order) e
      (grounded-front plan order o.grounds (length order) (omega arith) e whole))

  -- an event that leads only to events of the order is in it
  closed : (e : EventId) → e.0 < length plan.events → all_mentioned (is_in order) (cost_of_event plan e) ≡ true
      → is_in order e ≡ true
  closed e l h = search (rules, take_all, eqb-true, unmet-none, eq-eqb)

  grounded-order : (k : ℕ) (e : EventId) → e.0 < length plan.events → grounded_in plan k e ≡ true → is_in order e ≡ true
  grounded-order zero e l h = absurd (false≢true h)
  grounded-order (suc k) e l h =
      closed e l (all_mentioned-weaker (grounded_in plan k) (is_in order) (cost_of_event plan e)
      (λ f m. grounded-order k f (mentioned_below plan valid e f m)) h)

  -- an event is grounded if nothing is left of it
  pub grounded_is : (e : EventId) → e.0 < length plan.events → is_grounded plan e ≡ (left_of left e == 0)
  grounded_is e l = same_bool (is_grounded plan e) (is_in order e) (grounded-order (length plan.events) e l)
      (order-grounded e) ∙ o.membership e l

  -- an event that is not grounded leads to one
  pub open-leads : (e : EventId) → e.0 < length plan.events → is_open plan e ≡ true
      → all_mentioned (is_grounded plan) (cost_of_event plan e) ≡ false
  open-leads e l h = by (all_mentioned (is_grounded plan) (cost_of_event plan e)) refl
    where
      by : (b : Bool) → all_mentioned (is_grounded plan) (cost_of_event plan e) ≡ b → b ≡ false
      by false is = refl
      by true is =
          let in_order = closed e l (all_mentioned-weaker (is_grounded plan) (is_in order) (cost_of_event plan e)
          (λ f m. grounded-order (length plan.events) f (mentioned_below plan valid e f m)) is) in
          absurd (false≢true (sym (ap not (order-grounded e in_order)) ∙ h))

-- ---- weights, in the order

-- the events of the order so far weigh their ranks, none more than the most
abbrev pub AreWeighed : (k most : ℕ) → PlanView → List EventId → List ℕ → Type 0
AreWeighed k most plan weighed weights = (e : EventId) → is_in weighed e ≡ true
    → weight_of weights e ≡ min most (rank_at k plan e)

module _ (k most : ℕ) (plan : PlanView) (valid : HasEntries plan) (order : List EventId)
    (grounds : EachAfter (λ before e. all_mentioned (is_in before) (cost_of_event plan e) ≡ true) order)
    (short : length order ≤ length plan.events) where
  -- the rank of an event of the order is what it needs
  rank_needs : (i : ℕ) → i < length order → need_at k plan (rank_at k plan) (nth_event order i)
      ≡ rank_at k plan (nth_event order i)
  rank_needs i l =
      let here = is_in-more order i (nth_event order i) l in
      let rounds : (i + 1) + (length plan.events - (i + 1)) ≡ length plan.events = omega (arith, short, l) in
      let within : is_in (take (i + 1) order) (nth_event order i) ≡ true = here
      ∙ by (is_in (take i order) (nth_event order i)) ((nth_event order i).0 == (nth_event order i).0)
      (eq-eqb (nth_event order i).0 (nth_event order i).0 refl) in
      let stands = grounded-later plan (i + 1) (length plan.events - (i + 1)) (nth_event order i)
      (grounded-front plan order grounds (i + 1) (omega (arith, l)) (nth_event order i) within) in
      rank-stable plan k (length plan.events) (nth_event order i)
      (subst (λ (n : ℕ). grounded_in plan n (nth_event order i) ≡ true) rounds stands)
    where
      by : (a b : Bool) → b ≡ true → (a || b) ≡ true
      by true b h = refl
      by false b h = h

  pub weighs_more : (weights : List ℕ) (i needed : ℕ) → i < length order → length weights ≡ length plan.events
      → (nth_event order i).0 < length plan.events →
      AreWeighed k most plan (take i order) weights
      → needed ≡ price_at k (weight_of weights) (cost_of_event plan (nth_event order i)) →
      AreWeighed k most plan (take (i + 1) order) (set weights (nth_event order i).0 (min most needed))
  weighs_more weights i needed l count below weighed is = λ e h.
      let capped : min most needed ≡ min most (rank_at k plan (nth_event order i)) =
      (let agree = price_agrees k (weight_of weights) (λ f. min most (rank_at k plan f))
      (cost_of_event plan (nth_event order i))
      (λ f m. weighed f (all_mentioned_at (is_in (take i order)) (cost_of_event plan (nth_event order i)) f
      (grounds i l) m)) in
      let over = price-capped most k (rank_at k plan) (cost_of_event plan (nth_event order i)) in
      omega (arith, is, agree, over, rank_needs i l)) in
      elim (cases_eq e.0 (nth_event order i).0) [
        | inl same ↦
            subst (λ (y : EventId). weight_of (set weights (nth_event order i).0 (min most needed)) y
            ≡ min most (rank_at k plan y)) (sym (same_event e (nth_event order i) same))
            (get_or-set_same weights (nth_event order i).0 (min most needed) 0 (omega (arith, count, below)) ∙ capped)
        | inr other ↦
            elim (or_cases (is_in (take i order) e) ((nth_event order i).0 == e.0) (sym (is_in-more order i e l) ∙ h)) [
              | inl before ↦ get_or-set_other weights (nth_event order i).0 e.0 (min most needed) 0 other
                  ∙ weighed e before
              | inr here ↦ absurd (other (sym (eqb-true (nth_event order i).0 e.0 here)))
            ]
      ]

module _ (plan : PlanView) where
  pub length_ranks : length (ranks plan) ≡ length plan.events
  length_ranks = length-map (events_of plan) (rank plan) ∙ length-events plan

  pub rank_there : (e : EventId) → e.0 < length plan.events → weight_of (ranks plan) e ≡ rank plan e
  rank_there e l =
      get_or-map (rank plan) (events_of plan) e.0 no_event 0 (omega (arith, l, length-events plan))
      ∙ ap (rank plan) (event_number plan e.0 l)

module _ (plan : PlanView) (weights : List ℕ) (are : AreRanks 0 (greatest + 1) plan weights) where
  -- if each is within the limit, they are the ranks
  all_small : list_all (λ w. nat_le w greatest) weights ≡ true → weights ≡ ranks plan
  all_small h =
      let each = AllPass-from_list_all (λ w. nat_le w greatest) weights h in
      ext_get_or 0 weights (ranks plan) (are.count ∙ sym (length_ranks plan)) (λ n l.
      let low = leb-true (weight_of weights (event n)) greatest (each n 0 l) in
      let below : n < length plan.events = omega (arith, l, are.count) in
      omega (arith, low, are.each (event n) below, rank_there plan (event n) below))

  ranks_small : list_all (λ w. nat_le w greatest) (ranks plan) ≡ true → list_all (λ w. nat_le w greatest) weights ≡ true
  ranks_small h =
      let each = AllPass-from_list_all (λ w. nat_le w greatest) (ranks plan) h in
      list_all-from_AllPass (λ w. nat_le w greatest) weights
      (All-from_get_or (λ w. nat_le w greatest ≡ true) weights 0 (λ n l.
      let below : n < length plan.events = omega (arith, l, are.count) in
      let low = leb-true (weight_of (ranks plan) (event n)) greatest
      (each n 0 (omega (arith, below, length_ranks plan))) in
      le-leb (weight_of weights (event n)) greatest
      (omega (arith, low, rank_there plan (event n) below, are.each (event n) below))))

  pub limit_same : is_within_limit plan weights ≡ is_within_limit plan (ranks plan)
  limit_same = search (rules, cases_Bool, nat_le, all_small, and_left, same_bool, ranks_small)

  pub limit_ranks : is_within_limit plan weights ≡ true → weights ≡ ranks plan
  limit_ranks h = all_small (and_parts (list_all (λ w. nat_le w greatest) weights)
      (nat_le (bound_of plan (weight_of weights)) greatest) h).0
