-- The bound in lines and steps, from weights that are the ranks up to a most.
use Rattle.std.proofs.Common.{◌≡◌, ℕ, ◌-◌, ◌^◌, ◌<◌, ◌&&◌, if◌then◌else◌, min, Bool, true, false, List, length, arith}
use Rattle.plan_tables.specs.PlanView.{PlanView, act_of_listener, listeners_of, posts_of, row_numbers, switch_at}
use Rattle.plan_tables.specs.{Valid.{HasEntries, IsEventWithin, IsListenerWithin}, declared.entries.SwitchId.SwitchId}
use Rattle.plan_tables.specs.declared.devices.{BallTarget.TheVariants.Playfield, Telling.TheVariants.Arrived}
use Rattle.device_objects.specs.declared.device.Call.TheVariants as calls
use Rattle.cascade_rank.specs.Cost.{Lines, cost_of_acceptance, cost_of_call, cost_of_listener, cost_of_post}
use Rattle.cascade_rank.specs.Cost.{cost_of_stimuli, cost_of_switch, cost_of_telling, switches_of}
use Rattle.cascade_rank.specs.{Below.IsBelow, Events.weight_of, Ranks.rank_at, Order.AreRanks}
use Rattle.cascade_rank.specs.{Weights.bound_at, Measures.saturate, Working.{IsBoundOf, work_bound_of}}
use Rattle.cascade_rank.specs.declared.work_bounds.WorkBound.{WorkBound, TheVariants.{Within, Beyond}}
use Rattle.cascade_rank.proofs.{Prices.price_agrees, Mentioned.price-capped, Rows.rows-within}
use Rattle.cascade_rank.proofs.Within.{IsBelow-mentioned, IsBelow-call, IsBelow-telling, dearest_below, dearest_within}
use Rattle.cascade_rank.proofs.Within.{each_below, listeners-below, posts-below}

module _ (plan : PlanView) (valid : HasEntries plan) where
  IsBelow-playfield : (b : Bool) → IsBelow (length plan.events)
      (if b then cost_of_telling plan (Arrived Playfield) else Lines 0)
  IsBelow-playfield true = IsBelow-telling plan valid (Arrived Playfield)
  IsBelow-playfield false = tt

  IsBelow-acceptance : (s : SwitchId) (active : Bool) → IsBelow (length plan.events) (cost_of_acceptance plan s active)
  IsBelow-acceptance s active = (
    tt,
    (
      each_below (length plan.events) (cost_of_listener plan active) (IsListenerWithin (length plan.rows))
          (λ l h. IsBelow-call plan valid l.row (calls.Act (act_of_listener active l)) h)
          (listeners_of plan s) (listeners-below plan valid s),
      (
        IsBelow-playfield (active && (switch_at plan s).confirms_playfield),
        each_below (length plan.events) cost_of_post (IsEventWithin (length plan.events)) (λ e h. h)
            (posts_of plan s active) (posts-below plan valid s active),
      ),
    ),
  )

  -- a stimulus costs only events of the plan
  IsBelow-stimuli : IsBelow (length plan.events) (cost_of_stimuli plan)
  IsBelow-stimuli = (
    dearest_below (length plan.events) (cost_of_switch plan)
        (λ s. (IsBelow-acceptance s true, IsBelow-acceptance s false)) (switches_of plan),
    dearest_within (length plan.events) (λ r. cost_of_call plan r calls.Fire) (λ r. r.0 < length plan.rows)
        (λ r. IsBelow-call plan valid r calls.Fire) (row_numbers plan) (rows-within plan),
  )

  -- capped ranks give the capped bound
  bound-capped : (k most : ℕ) (weights : List ℕ) → AreRanks k most plan weights
      → min most (bound_at k plan (weight_of weights)) ≡ min most (bound_at k plan (rank_at k plan))
  bound-capped k most weights are =
      let agree = price_agrees k (weight_of weights) (λ e. min most (rank_at k plan e)) (cost_of_stimuli plan)
      (λ e m. are.each e (IsBelow-mentioned (length plan.events) (cost_of_stimuli plan) e IsBelow-stimuli m)) in
      omega (arith, agree, price-capped most k (rank_at k plan) (cost_of_stimuli plan))

  pub work_bound-is : (weights : List ℕ) → AreRanks 1 (2 ^ 64 - 1) plan weights → (steps : ℕ)
      → steps ≡ saturate (bound_at 1 plan (weight_of weights))
      → (bound : WorkBound) → IsBoundOf steps bound → IsBoundOf (work_bound_of plan) bound
  work_bound-is weights are steps is (Within n) h =
      let capped = bound-capped 1 (2 ^ 64 - 1) weights are in
      (omega (arith, is, h.0, h.1, capped), omega (arith, is, h.1, capped))
  work_bound-is weights are steps is Beyond h = omega (arith, is, h, bound-capped 1 (2 ^ 64 - 1) weights are)
