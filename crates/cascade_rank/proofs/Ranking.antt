-- Ranks and groundedness, round by round.
use Rattle.std.proofs.{Common.{◌≡◌, ℕ, zero, suc, ◌+◌, ◌≤◌, ◌<◌, true, length, arith}, lemmas.Bool.false≢true}
use Rattle.plan_tables.specs.{PlanView.PlanView, Valid.HasEntries, declared.entries.EventId.EventId}
use Rattle.cascade_rank.specs.{Cost.{mentions, cost_of_event}, LeadsTo.{grounded_in, is_grounded}}
use Rattle.cascade_rank.specs.{Weights.IsFittingAt, Ranks.{rank_in, rank_at}}
use Rattle.cascade_rank.proofs.{Prices.{price_at_most, price_agrees}, Within.{IsBelow-mentioned, IsBelow-event}}
use Rattle.cascade_rank.proofs.Mentioned.{all_mentioned_at, all_mentioned-weaker}

module _ (plan : PlanView) where
  -- what is grounded stays grounded
  pub grounded-more : (k : ℕ) (e : EventId) → grounded_in plan k e ≡ true → grounded_in plan (suc k) e ≡ true
  grounded-more zero e h = absurd (false≢true h)
  grounded-more (suc k) e h = all_mentioned-weaker (grounded_in plan k) (grounded_in plan (suc k))
      (cost_of_event plan e) (λ f m. grounded-more k f) h

  pub grounded-later : (k j : ℕ) (e : EventId) → grounded_in plan k e ≡ true → grounded_in plan (k + j) e ≡ true
  grounded-later k zero e h = let same : k + 0 ≡ k = omega arith in rw same h
  grounded-later k (suc j) e h = let same : k + suc j ≡ suc (k + j) = omega arith
      in rw same (grounded-more (k + j) e (grounded-later k j e h))

  -- a grounded event keeps its rank
  pub rank-stable : (k round : ℕ) (e : EventId) → grounded_in plan round e ≡ true
      → rank_in k plan (suc round) e ≡ rank_in k plan round e
  rank-stable k zero e h = absurd (false≢true h)
  rank-stable k (suc round) e h =
      price_agrees k (rank_in k plan (suc round)) (rank_in k plan round) (cost_of_event plan e)
      (λ f m. rank-stable k round f (all_mentioned_at (grounded_in plan round) (cost_of_event plan e) f h m))

module _ (plan : PlanView) (valid : HasEntries plan) where
  pub mentioned_below : (e f : EventId) → mentions f (cost_of_event plan e) ≡ true → f.0 < length plan.events
  mentioned_below e f m = IsBelow-mentioned (length plan.events) (cost_of_event plan e) f (IsBelow-event plan valid e) m

  -- no fitting weights are below the ranks of any round
  pub rank-least : (k : ℕ) (v : EventId → ℕ) → IsFittingAt k plan v → (round : ℕ) (e : EventId)
      → e.0 < length plan.events → rank_in k plan round e ≤ v e
  rank-least k v fit zero e h = omega arith
  rank-least k v fit (suc round) e h =
      let less = price_at_most k (rank_in k plan round) v (cost_of_event plan e)
      (λ f m. rank-least k v fit round f (mentioned_below e f m)) in
      let fits = fit e h in
      omega (arith, less, fits)

  -- if all are grounded, the ranks fit
  pub rank-fits : (k : ℕ) → ((e : EventId) → e.0 < length plan.events → is_grounded plan e ≡ true)
      → IsFittingAt k plan (rank_at k plan)
  rank-fits k all e h =
      let same = rank-stable plan k (length plan.events) e (all e h) in
      omega (arith, same)
