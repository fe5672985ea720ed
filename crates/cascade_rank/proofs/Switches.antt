-- The switches of a plan, and that the bound is no less than what one of them costs.
use Rattle.std.proofs.Common.{◌≡◌, ℕ, ◌<◌, ◌≤◌, Bool, true, false, length, get_or, ap, arith}
use Rattle.std.proofs.lemmas.List.FromFn.{length-map-range_with_len, get_or-map-range_with_len}
use Rattle.plan_tables.specs.{PlanView.PlanView, declared.entries.{EventId.EventId, SwitchId.SwitchId}}
use Rattle.cascade_rank.specs.{Cost.{price_at, cost_of_acceptance, cost_of_switch, switches_of}, Weights.bound_at}
use Rattle.cascade_rank.proofs.Prices.{price-dearest}

module _ (plan : PlanView) where
  pub length-switches : length (switches_of plan) ≡ length plan.switches
  length-switches = length-map-range_with_len (λ n. record { 0 = n }) 0 (length plan.switches)

  pub switch_of : (n : ℕ) (d : SwitchId) → n < length plan.switches → get_or (switches_of plan) n d ≡ record { 0 = n }
  switch_of n d h = get_or-map-range_with_len (λ n. record { 0 = n }) 0 (length plan.switches) n n d h (omega arith)

  -- no switch of the plan is dearer than the dearest stimulus
  pub switch-within_bound : (k : ℕ) (w : EventId → ℕ) (s : SwitchId) → s.0 < length plan.switches
      → price_at k w (cost_of_switch plan s) ≤ bound_at k plan w
  switch-within_bound k w s h =
      let listed : s.0 < length (switches_of plan) = omega (arith, h, length-switches) in
      let here = ap (λ (t : SwitchId). price_at k w (cost_of_switch plan t)) (switch_of s.0 s h) in
      omega (arith, price-dearest k w (cost_of_switch plan) (switches_of plan) s.0 s listed, here)

  -- and so is no acceptance of it
  pub acceptance-within_bound : (k : ℕ) (w : EventId → ℕ) (s : SwitchId) (active : Bool) → s.0 < length plan.switches
      → price_at k w (cost_of_acceptance plan s active) ≤ bound_at k plan w
  acceptance-within_bound k w s active h = by active (switch-within_bound k w s h)
    where
      by : (a : Bool) → price_at k w (cost_of_switch plan s) ≤ bound_at k plan w
          → price_at k w (cost_of_acceptance plan s a) ≤ bound_at k plan w
      by true dear = omega (arith, dear)
      by false dear = omega (arith, dear)
