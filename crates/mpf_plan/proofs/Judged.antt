-- The first table that is above its limit, and the plan if there is none.
use Rattle.std.proofs.Common.{rules, ◌≡◌, ◌<◌, ◌≤◌, ◌⊎◌, inl, ℕ, ◌+◌, ◌==◌, Bool, true, false, cond, List, []}
use Rattle.std.proofs.Common.{◌∷◌, ◌&&◌, ◌||◌, length, nat_lt, Option, Some, None, refl, sym, ◌∙◌, ap, arith}
use Rattle.std.{specs.Prelude.{Result, Ok, Err, find}, proofs.lemmas.Bool.{le-ltb, cases_lt, eqb-true, and_parts}}
use Rattle.mpf_config.specs.Rows.{Rows}
use Rattle.plan_tables.specs.{declared.table.Table.Table, PlanView.PlanView}
use Rattle.plan_tables.specs.Limits.{entry_count, limit_of, order_of, tables_in_order, first_above, IsFirstAbove}
use Rattle.plan_parts.specs.Parts.{parts_of}
use Rattle.mpf_plan.{proofs.ByTable.{place_within, in_place}, specs.PlanOf.{lacks_name, plan_of, plan_at}}
use Rattle.mpf_plan.specs.PlanOf.{PlanRefusal, no_such_name, above_limit, fitting, IsExceeded}

-- ---- tables

module _ (plan : PlanView) where
  abbrev Within : Table → Type 0
  Within t = entry_count plan t ≤ limit_of t

  abbrev is_above : Table → Bool
  is_above t = nat_lt (limit_of t) (entry_count plan t)

  none_among : (ts : List Table) → ((t : Table) → Within t) → find is_above ts ≡ None
  none_among [] within = refl
  none_among (t ∷ ts) within =
      λ i. cond (le-ltb (limit_of t) (entry_count plan t) (within t) i) (Some t) (none_among ts within i)

  pub none_above : ((t : Table) → entry_count plan t ≤ limit_of t) → first_above plan ≡ None
  none_above within = none_among tables_in_order within

  first_step : (n : ℕ) (x : Table) (xs : List Table) (t : Table) → order_of x ≡ n → n ≤ order_of t
      → IsFirstAbove plan t → (n < order_of t → find is_above xs ≡ Some t) → (n < order_of t) ⊎ (order_of t ≤ n)
      → find is_above (x ∷ xs) ≡ Some t
  first_step n x xs t here from first rest x9 = search rules

  first_among : (n : ℕ) (ts : List Table) (t : Table) → in_place n ts ≡ true → n ≤ order_of t
      → order_of t < n + length ts → IsFirstAbove plan t → find is_above ts ≡ Some t
  first_among n [] t placed from to first = absurd (omega arith)
  first_among n (x ∷ xs) t placed from to first =
      let parts = and_parts (order_of x == n) (in_place (n + 1) xs) placed in
      first_step n x xs t (eqb-true (order_of x) n parts.0) from first
      (λ later. first_among (n + 1) xs t parts.1 (omega arith) (omega arith) first) (cases_lt n (order_of t))

  pub first_is : (t : Table) → IsFirstAbove plan t → first_above plan ≡ Some t
  first_is t first = first_among 0 tables_in_order t refl (omega arith) (place_within t) first

  upto : (n : ℕ) (x : Table) → order_of x ≡ n → ((t : Table) → order_of t < n → Within t) → Within x → (t : Table)
      → order_of t < n + 1 → Within t
  upto n x here before within t to = by (cases_lt (order_of t) n)
    where
      by : (order_of t < n) ⊎ (n ≤ order_of t) → Within t
      by x1 = search rules

  -- each table of these is within its limit, or one is the first that is not
  abbrev SomeOrNone : ℕ → Type 0
  SomeOrNone n = ((t : Table) → order_of t < n → Within t) ⊎ ((t : Table) × IsFirstAbove plan t)

  some_or_none_step : (n m : ℕ) (x : Table) → order_of x ≡ n → ((t : Table) → order_of t < n → Within t)
      → (Within x → SomeOrNone m) → (limit_of x < entry_count plan x) ⊎ (entry_count plan x ≤ limit_of x)
      → SomeOrNone m
  some_or_none_step n m x here before rest x7 = search rules

  some_or_none_among : (n m : ℕ) (ts : List Table) → m ≡ n + length ts → in_place n ts ≡ true
      → ((t : Table) → order_of t < n → Within t) → SomeOrNone m
  some_or_none_among n m [] end placed before = inl (λ t to. before t (omega arith))
  some_or_none_among n m (x ∷ xs) end placed before =
      let parts = and_parts (order_of x == n) (in_place (n + 1) xs) placed in
      let here = eqb-true (order_of x) n parts.0 in
      some_or_none_step n m x here before
      (λ within. some_or_none_among (n + 1) m xs (omega (arith, end)) parts.1 (upto n x here before within))
      (cases_lt (limit_of x) (entry_count plan x))

  some_or_none : ((t : Table) → entry_count plan t ≤ limit_of t) ⊎ ((t : Table) × IsFirstAbove plan t)
  some_or_none =
      by (some_or_none_among 0 (length tables_in_order) tables_in_order refl refl (λ t none. absurd (omega arith)))
    where
      by : SomeOrNone (length tables_in_order)
          → ((t : Table) → entry_count plan t ≤ limit_of t) ⊎ ((t : Table) × IsFirstAbove plan t)
      by x1 = search rules

same_Some : (t u : Table) → Some t ≡ Some u → t ≡ u
same_Some t u e = cc

-- if no table is the first above its limit, each is within it
pub all_within : (plan : PlanView) → first_above plan ≡ None → (t : Table) → entry_count plan t ≤ limit_of t
all_within plan none = by (some_or_none plan)
  where
    by : ((t : Table) → entry_count plan t ≤ limit_of t) ⊎ ((t : Table) × IsFirstAbove plan t) → (t : Table)
        → entry_count plan t ≤ limit_of t
    by x1 = search (rules, first_is)

-- the table that is found is the first above its limit
pub is_first : (plan : PlanView) (t : Table) → first_above plan ≡ Some t → IsFirstAbove plan t
is_first plan t found = by (some_or_none plan)
  where
    by : ((t : Table) → entry_count plan t ≤ limit_of t) ⊎ ((t : Table) × IsFirstAbove plan t) → IsFirstAbove plan t
    by x1 = search (rules, none_above, same_Some, first_is)

-- ---- the plan of rows

same_Ok : (p q : PlanView) → ◌≡◌ {A = Result PlanView PlanRefusal} (Ok p) (Ok q) → p ≡ q
same_Ok p q e = cc

same_limit : (t u : Table) → ◌≡◌ {A = Result PlanView PlanRefusal} (Err (above_limit t)) (Err (above_limit u)) → t ≡ u
same_limit t u e = cc

Ok-Err : (p : PlanView) (r : PlanRefusal) → ◌≡◌ {A = Result PlanView PlanRefusal} (Ok p) (Err r) → ⊥
Ok-Err p r e = cc

limit-name : (t : Table) → ◌≡◌ {A = Result PlanView PlanRefusal} (Err (above_limit t)) (Err no_such_name) → ⊥
limit-name t e = cc

module _ (rows : Rows) where
  abbrev lacks_any : Bool
  lacks_any = lacks_name (parts_of rows)

  -- a name that nothing has
  pub plan_at-lacking : lacks_name (parts_of rows) ≡ true → plan_at rows ≡ Err no_such_name
  unfolding plan_at
  plan_at-lacking lacking =
      ap (λ b. cond b (Err no_such_name) (fitting (plan_of rows) (first_above (plan_of rows)))) lacking

  complete : lacks_name (parts_of rows) ≡ false → plan_at rows ≡ fitting (plan_of rows) (first_above (plan_of rows))
  unfolding plan_at
  complete none = ap (λ b. cond b (Err no_such_name) (fitting (plan_of rows) (first_above (plan_of rows)))) none

  -- the plan, if no name is lacking and each table is within its limit
  pub plan_at-within : lacks_name (parts_of rows) ≡ false → ((t : Table) → entry_count (plan_of rows) t ≤ limit_of t)
      → plan_at rows ≡ Ok (plan_of rows)
  plan_at-within none within = complete none ∙ ap (fitting (plan_of rows)) (none_above (plan_of rows) within)

  -- the first table that is above its limit
  pub plan_at-exceeded : lacks_name (parts_of rows) ≡ false → (t : Table) → IsExceeded rows t
      → plan_at rows ≡ Err (above_limit t)
  plan_at-exceeded none t first = complete none ∙ ap (fitting (plan_of rows)) (first_is (plan_of rows) t first)

  -- An answer other than that a name is lacking says that none is.
  named_if : (r : Result PlanView PlanRefusal) → plan_at rows ≡ r → (r ≡ Err no_such_name → ⊥) → (b : Bool)
      → lacks_any ≡ b → lacks_any ≡ false
  named_if r is other true lacking = absurd (other (sym is ∙ plan_at-lacking lacking))
  named_if r is other false none = none

  -- If there is a plan, no name is lacking.
  pub plan_at-complete : (plan : PlanView) → plan_at rows ≡ Ok plan → lacks_name (parts_of rows) ≡ false
  plan_at-complete plan is = named_if (Ok plan) is (Ok-Err plan no_such_name) lacks_any refl

  -- Nor is one if a table is above its limit.
  pub plan_at-above : (t : Table) → plan_at rows ≡ Err (above_limit t) → lacks_name (parts_of rows) ≡ false
  plan_at-above t is = named_if (Err (above_limit t)) is (limit-name t) lacks_any refl

  -- An answer with a plan is the plan of the rows, and each table is within its limit.
  pub plan_at-Ok : (plan : PlanView) → plan_at rows ≡ Ok plan
      → (plan ≡ plan_of rows) × ((t : Table) → entry_count plan t ≤ limit_of t)
  plan_at-Ok plan is = by (some_or_none (plan_of rows))
    where
      none : lacks_name (parts_of rows) ≡ false
      none = plan_at-complete plan is

      by : ((t : Table) → entry_count (plan_of rows) t ≤ limit_of t) ⊎ ((t : Table) × IsFirstAbove (plan_of rows) t)
          → (plan ≡ plan_of rows) × ((t : Table) → entry_count plan t ≤ limit_of t)
      by x1 = search (rules, same_Ok, plan_at-within, none, Ok-Err, plan_at-exceeded)

  -- An answer without one names the first table that is above its limit.
  pub plan_at-Err : (t : Table) → plan_at rows ≡ Err (above_limit t) → IsExceeded rows t
  plan_at-Err t is = by (some_or_none (plan_of rows))
    where
      none : lacks_name (parts_of rows) ≡ false
      none = plan_at-above t is

      by : ((t : Table) → entry_count (plan_of rows) t ≤ limit_of t) ⊎ ((t : Table) × IsFirstAbove (plan_of rows) t)
          → IsFirstAbove (plan_of rows) t
      by x1 = search (rules, Ok-Err, plan_at-within, none, same_limit, plan_at-exceeded)

  -- An answer that a name is lacking tells of one.
  pub plan_at-named : plan_at rows ≡ Err no_such_name → lacks_name (parts_of rows) ≡ true
  plan_at-named is = by lacks_any refl
    where
      fitted : (o : Option Table)
          → ◌≡◌ {A = Result PlanView PlanRefusal} (fitting (plan_of rows) o) (Err no_such_name) → ⊥
      fitted x1 e = search rules

      by : (b : Bool) → lacks_any ≡ b → lacks_any ≡ true
      by true lacking = lacking
      by false none = absurd (fitted (first_above (plan_of rows)) (sym (complete none) ∙ is))
