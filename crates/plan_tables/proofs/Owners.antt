-- Owners, and their rows of devices.
use Rattle.std.proofs.Common.{rules, ◌≡◌, ◌<◌, zero, suc, Bool, true, false, cond, List, [], ◌∷◌, length, filter, ap}
use Rattle.std.{proofs.Common.{◌∙◌, arith}, specs.{Prelude.Contains, List.All}}
use Rattle.std.proofs.lemmas.List.{Elements.All-filter, FromFn.{length-map-range_with_len, get_or-map-range_with_len}}
use Rattle.plan_tables.specs.declared.{entries.Owner.Owner, devices.RowId.RowId}
use Rattle.plan_tables.specs.PlanView.{PlanView, is_owner, row_at, row_numbers, rows_of}

-- owners that are found to be the same are the same
pub is_owner-same : (a b : Owner) → is_owner a b ≡ true → a ≡ b
is_owner-same a b is = search rules

-- what passes a test is among those that do
filter-there : {X : Type 0} (p : X → Bool) (xs : List X) (x : X) → Contains xs x → p x ≡ true → Contains (filter p xs) x
filter-there p [] x (i, within, is) passes = absurd (omega arith)
filter-there p (y ∷ xs) x (zero, within, is) passes = rw (ap p is ∙ passes) (0, omega arith, is)
filter-there p (y ∷ xs) x (suc i, within, is) passes = by (p y) (filter-there p xs x (i, omega arith, is) passes)
  where
    by : (b : Bool) → Contains (filter p xs) x → Contains (cond b (y ∷ filter p xs) (filter p xs)) x
    by true (j, l, e) = (suc j, omega arith, e)
    by false there = there

module _ (plan : PlanView) where
  -- every number is that of a row
  pub row_numbers-within : All (λ r. r.0 < length plan.rows) (row_numbers plan)
  row_numbers-within k d there = search (rules, length-map-range_with_len, get_or-map-range_with_len)

  pub rows_of-within : (owner : Owner) → All (λ r. r.0 < length plan.rows) (rows_of plan owner)
  rows_of-within owner = All-filter (λ r. is_owner owner (row_at plan r).owner) (λ r. r.0 < length plan.rows)
      (row_numbers plan) row_numbers-within

  -- a row of the owner is among them
  pub rows_of-there : (owner : Owner) (r : RowId) → r.0 < length plan.rows → is_owner owner (row_at plan r).owner ≡ true
      → Contains (rows_of plan owner) r
  rows_of-there owner r there is = filter-there (λ q. is_owner owner (row_at plan q).owner) (row_numbers plan) r (
    r.0,
    omega (arith, there, length-map-range_with_len {X = RowId} (λ n. record { 0 = n }) 0 (length plan.rows)),
    get_or-map-range_with_len (λ n. record { 0 = n }) 0 (length plan.rows) r.0 r.0 r there (omega arith),
  ) is
