-- The draft of rows is their plan, or there is none.
use Rattle.std.proofs.Common.{◌≡◌, ℕ, ◌≤◌, false, not, List, [], ◌∷◌, ◌++◌, length, Option, None, Some, Result, Ok}
use Rattle.std.proofs.{Common.{Err, refl, sym, ap, ◌∙◌, subst, true≢false, arith}, lemmas.Bool.or_parts}
use Rattle.std.specs.{Str.bytes_eq, List.{flat_map, list_any}}
use Rattle.mpf_config.specs.{Rows.Rows, Short.AreListsShort, FewModes.AreFewModes, States.HaveStates}
use Rattle.plan_tables.specs.declared.table.Table.{Table, TheVariants.{Bindings, Switches, Coils}}
use Rattle.plan_tables.specs.declared.table.Table.TheVariants as tables
use Rattle.plan_tables.specs.{PlanView.PlanView, Valid.IsValid, Limits.{entry_count, first_above, limit_of}}
use Rattle.plan_rows.specs.declared.rows.Row as written
use Rattle.plan_rows.specs.{Rows.rows_of, View.row_list_view}
use Rattle.plan_parts.specs.{Parts.{Part, switch, coil, parts_of}, RowViews.{machine_text, parts_from}}
use Rattle.mpf_plan.specs.declared.{draft.Draft.Draft, fault.PlanFault.PlanFault}
use Rattle.mpf_plan.specs.declared.fault.PlanFault.TheVariants as faults
use Rattle.mpf_plan.specs.{Uses.{Names, first_uses, is_lacking}, Lacking.parts_of_rows}
use Rattle.mpf_plan.specs.PlanOf.{Use, in_table, part_uses, part_gives, is_unknown, lacks_name, names_of, plan_by}
use Rattle.mpf_plan.specs.PlanOf.{plan_of, plan_at, above_limit, GivesPlan, IsExceeded}
use Rattle.mpf_plan.specs.Drafting.{kept_names, names_by, HasNames, HasOneEach, IsDraftOf, GivesDraft, draft_view}
use Rattle.mpf_plan.proofs.{Noted.kept_all, Grown.{InLimits, within_names}, Walk.walked}
use Rattle.mpf_plan.proofs.{KeptParts.parts_kept, ValidPlan.IsValid-plan_of}
use Rattle.mpf_plan.proofs.Judged.{all_within, is_first, plan_at-within, plan_at-exceeded, plan_at-Err}

-- ---- bindings and rows have no names

-- no part gives one
none_given : (t : Table) → (HasNames t → ⊥) → (ps : List Part) → in_table t (flat_map part_gives ps) ≡ []
none_given t nameless [] = refl
none_given t nameless (p ∷ ps) = by t p nameless (none_given t nameless ps)
  where
    by : (t : Table) (p : Part) → (HasNames t → ⊥) → in_table t (flat_map part_gives ps) ≡ []
        → in_table t (part_gives p ++ flat_map part_gives ps) ≡ []
    by Bindings (switch n kind confirms active inactive) nameless rest = rest
    by Bindings (coil n limits) nameless rest = rest
    by Bindings x2 nameless rest = rest
    by tables.Rows (switch n kind confirms active inactive) nameless rest = rest
    by tables.Rows (coil n limits) nameless rest = rest
    by tables.Rows x2 nameless rest = rest
    by x1 x2 nameless rest = absurd (nameless tt)

-- where none is given, each that is used is lacking
none_used : (there : Names) (t : Table) → (HasNames t → ⊥) → there t ≡ [] → (us : List Use)
    → list_any (is_lacking there) us ≡ false → in_table t us ≡ []
none_used there t nameless empty [] none = refl
none_used there t nameless empty (u ∷ us) none =
    let both = or_parts (is_lacking there u) (list_any (is_lacking there) us) none in
    by t u.0 u.1 nameless empty both.0 (none_used there t nameless empty us both.1)
  where
    by : (t u : Table) (n : List ℕ) → (HasNames t → ⊥) → there t ≡ [] → is_lacking there (u, n) ≡ false
        → in_table t us ≡ [] → in_table t ((u, n) ∷ us) ≡ []
    by Bindings Bindings n nameless empty has rest =
        absurd (true≢false (sym (ap (λ ns. not (list_any (bytes_eq n) ns)) empty) ∙ has))
    by Bindings x2 n nameless empty has rest = rest
    by tables.Rows tables.Rows n nameless empty has rest =
        absurd (true≢false (sym (ap (λ ns. not (list_any (bytes_eq n) ns)) empty) ∙ has))
    by tables.Rows x2 n nameless empty has rest = rest
    by x1 x2 n nameless empty has rest = absurd (nameless tt)

no_names : (ps : List Part) → lacks_name ps ≡ false → (t : Table) → (HasNames t → ⊥)
    → in_table t (flat_map part_uses ps) ≡ []
unfolding lacks_name
no_names ps complete t nameless =
    let there : Names = λ u. in_table u (flat_map part_gives ps) in
    none_used there t nameless (none_given t nameless ps) (flat_map part_uses ps)
    (or_parts (list_any is_unknown ps) (list_any (is_lacking there) (flat_map part_uses ps)) complete).1

-- so no table has more names than its limit
names_fit : (ps : List Part) → lacks_name ps ≡ false → InLimits ps → (t : Table)
    → length (names_by (flat_map part_uses ps) t) ≤ limit_of t
names_fit ps complete limits Bindings =
    let none : length (names_by (flat_map part_uses ps) Bindings) ≡ 0 =
    ap (λ ns. length (first_uses ns)) (no_names ps complete Bindings (λ h. h)) in
    omega (arith, none)
names_fit ps complete limits tables.Rows =
    let none : length (names_by (flat_map part_uses ps) tables.Rows) ≡ 0 =
    ap (λ ns. length (first_uses ns)) (no_names ps complete tables.Rows (λ h. h)) in
    omega (arith, none)
names_fit ps complete limits t = within_names ps limits t tt

-- ---- the plan of rows

plan_is : (rows : Rows) → plan_of rows ≡ plan_by (names_of (parts_of rows)) (parts_of rows)
unfolding plan_of
plan_is rows = refl

-- the rows of a configuration have its parts
pub rows_parts : (rows : Rows) (rs : List written.Row) → row_list_view rs ≡ rows_of rows
    → parts_of_rows rows rs ≡ parts_of rows
rows_parts rows rs are = ap (parts_from rows.machine machine_text) are ∙ walked rows

-- the answer says which table is above its limit
pub limit_said : (rows : Rows) (r : Result PlanView PlanFault) → GivesPlan r (plan_at rows) → (t : Table)
    → r ≡ Err (faults.Limit t) → IsExceeded rows t
limit_said rows r exact t is = plan_at-Err rows t (subst (λ a. GivesPlan a (plan_at rows)) is exact)

-- it is the plan
pub is_planned : (rows : Rows) (p : PlanView) → lacks_name (parts_of rows) ≡ false
    → ((t : Table) → entry_count (plan_of rows) t ≤ limit_of t) → p ≡ plan_of rows → plan_at rows ≡ Ok p
is_planned rows p complete within is = plan_at-within rows complete within ∙ ap Ok (sym is)

module _ (rows : Rows) (rs : List written.Row) (are : row_list_view rs ≡ rows_of rows)
    (complete : lacks_name (parts_of rows) ≡ false) where
  abbrev ps : List Part
  ps = parts_of rows

  -- a table is above its limit
  exceeded : (t : Table) → first_above (plan_by (names_of ps) ps) ≡ Some t → plan_at rows ≡ Err (above_limit t)
  exceeded t found =
      plan_at-exceeded rows complete t (is_first (plan_of rows) t (ap first_above (plan_is rows) ∙ found))

  -- there is no draft
  refused : (e : PlanFault) → GivesDraft rows rs (Err e) → GivesPlan (Err e) (plan_at rows)
  refused faults.NoMemory why = tt
  refused faults.NoSuchName why = absurd why
  refused (faults.Limit t) why =
      exceeded t (subst (λ qs. first_above (plan_by (names_of qs) qs) ≡ Some t) (rows_parts rows rs are) why)

  pub refused_exact : (r : Result PlanView PlanFault) (e : PlanFault) → r ≡ Err e → GivesDraft rows rs (Err e)
      → GivesPlan r (plan_at rows)
  refused_exact r e is why = subst (λ a. GivesPlan a (plan_at rows)) (sym is) (refused e why)

  -- there is a draft, and this is the first table above its limit
  module _ (d : Draft) (made : GivesDraft rows rs (Ok d)) (o : Option Table)
      (judged : (qs : List Part) → IsDraftOf qs d → o ≡ first_above (plan_by (names_of qs) qs)) where
    is_made : IsDraftOf ps d
    is_made = subst (λ qs. IsDraftOf qs d) (rows_parts rows rs are) made

    pub too_many : (t : Table) → o ≡ Some t → plan_at rows ≡ Err (above_limit t)
    too_many t is = exceeded t (sym (judged ps is_made) ∙ is)

    -- or there is none
    module _ (none : o ≡ None) where
      pub within : (t : Table) → entry_count (plan_of rows) t ≤ limit_of t
      within = all_within (plan_of rows) (ap first_above (plan_is rows) ∙ sym (judged ps is_made) ∙ none)

      limits : InLimits ps
      limits = subst (λ (p : PlanView). (t : Table) → entry_count p t ≤ limit_of t) (plan_is rows) within

      pub fit : (t : Table) → length (kept_names d.names t) ≤ limit_of t
      fit t =
          let few = names_fit ps complete limits t in
          omega (arith, few, ap length (kept_all (flat_map part_uses ps) d.names t is_made.names few))

      pub one_each_switch : HasOneEach Switches d.names d.switches
      one_each_switch = is_made.switches (within_names ps limits)

      pub one_each_coil : HasOneEach Coils d.names d.coils
      one_each_coil = is_made.coils (within_names ps limits)

      module _ (states : HaveStates rows) (short : AreListsShort rows) where
        pub is_plan : draft_view d ≡ plan_of rows
        is_plan = is_made.plan (parts_kept rows states short limits) limits ∙ sym (plan_is rows)

        pub is_valid : AreFewModes rows.modes → IsValid (draft_view d)
        is_valid few = subst IsValid (sym is_plan) (IsValid-plan_of rows short few states complete within)
