-- The rows of a plan's devices, by number.
use Rattle.std.{proofs.Common.{rules, ◌≡◌, ℕ, ◌<◌, ◌≤◌, Bool, List, length, get_or, arith}, specs.List.{All, filter}}
use Rattle.std.proofs.lemmas.List.{Elements.All-from_get_or, Sums.{length-filter, count_by-le-length}}
use Rattle.std.proofs.lemmas.List.FromFn.{length-map-range_with_len, get_or-map-range_with_len}
use Rattle.plan_tables.specs.{PlanView.{PlanView, row_numbers}, declared.devices.RowId.RowId}

module _ (plan : PlanView) where
  pub length-rows : length (row_numbers plan) ≡ length plan.rows
  length-rows = length-map-range_with_len (λ n. record { 0 = n }) 0 (length plan.rows)

  pub row_of : (n : ℕ) (d : RowId) → n < length plan.rows → get_or (row_numbers plan) n d ≡ record { 0 = n }
  row_of n d h = get_or-map-range_with_len (λ n. record { 0 = n }) 0 (length plan.rows) n n d h (omega arith)

  -- each number is that of a row
  pub rows-within : All (λ r. r.0 < length plan.rows) (row_numbers plan)
  rows-within = search (rules, All-from_get_or, length-rows, row_of)

-- no more pass a test than there are
pub passing-few : {X : Type 0} (p : X → Bool) (xs : List X) (n : ℕ) → length xs ≤ n → length (filter p xs) ≤ n
passing-few p xs n few = omega (arith, length-filter p xs, count_by-le-length p xs, few)
