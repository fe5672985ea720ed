-- The draft of the rows so far: with one row more; and where there are too many events.
use Rattle.std.proofs.Common.{rules, ◌≡◌, ℕ, ◌+◌, ◌<◌, ◌≤◌, ◌⊎◌, inl, inr, Bool, true, false, cond, if◌then◌else◌, List}
use Rattle.std.proofs.Common.{[], ◌∷◌, ◌++◌, length, map, take, drop, get_or, nat_lt, refl, sym, ap, ◌∙◌, subst}
use Rattle.std.{proofs.Common.{true≢false, arith, Some, None}, specs.{Prelude.{slice_get, find}, List.flat_map}}
use Rattle.std.proofs.lemmas.{Bool.{lt-ltb, le-ltb, ltb-true}, Option.slice_get_cases, Grind.flat_map-append}
use Rattle.std.proofs.lemmas.List.{drop_more, take_more, take_all, get_or-map, length-map, take-append-drop}
use Rattle.mpf_config.specs.{Rows.Rows, FewModes.AreFewModes}
use Rattle.mpf_sections.specs.Rows.{SectionRows}
use Rattle.plan_tables.specs.{declared.names.NameTable.NameTable, Limits.{entry_count, first_above, limit_of, order_of}}
use Rattle.plan_tables.specs.declared.table.Table.{Table, TheVariants.{Events, Switches, Coils, Variables}}
use Rattle.plan_tables.specs.declared.table.Table.TheVariants as tables
use Rattle.plan_rows.specs.declared.rows.Row as written
use Rattle.plan_rows.specs.{Rows.{Row, rows_of}, View.{row_view, row_list_view}}
use Rattle.plan_parts.specs.{Parts.{Part, unknown}, RowViews.{TextView, machine_text, text_after, parts_at, parts_from}}
use Rattle.first_names.specs.FirstNames.{IsNameTableOf}
use Rattle.mpf_plan.specs.{declared.draft.Draft.Draft, Lacking.parts_of_rows}
use Rattle.mpf_plan.specs.declared.names.Names as held_names
use Rattle.mpf_plan.specs.PlanOf.{Use, part_uses, names_of, plan_by, switch_called, coil_called}
use Rattle.mpf_plan.specs.Drafting.{AreNamesOf, HasNames, IsDraftOf, Adds, is_above, is_table_above, names_by}
use Rattle.mpf_plan.proofs.{Entered.adds_unknown, Named.{names_grow, names_of-uses}}
use Rattle.mpf_plan.proofs.{Grown.adds_none, ByTable.place_within}
use Rattle.mpf_plan.proofs.Walk.{text_from, parts_more, text_more, parts_of_more, few_modes}

-- ---- one row more

module _ (machine : List SectionRows) (rs : List written.Row) (i : ℕ) (d : written.Row) (within : i < length rs) where
  abbrev so_far : List Row
  so_far = take i (row_list_view rs)

  abbrev here : Row
  here = row_view (get_or rs i d)

  rows_next : take (i + 1) (row_list_view rs) ≡ so_far ++ here ∷ []
  rows_next =
      take_more (row_list_view rs) i here (omega (arith, within, length-map rs row_view))
      ∙ ap (λ r. so_far ++ r ∷ []) (get_or-map row_view rs i d here within)

  pub parts_next : parts_from machine machine_text (take (i + 1) (row_list_view rs))
      ≡ parts_from machine machine_text so_far ++ parts_at machine (text_from machine machine_text so_far) here
  parts_next = ap (parts_from machine machine_text) rows_next ∙ parts_more machine machine_text so_far here

  pub text_next : text_from machine machine_text (take (i + 1) (row_list_view rs))
      ≡ text_after here (text_from machine machine_text so_far)
  text_next = ap (text_from machine machine_text) rows_next ∙ text_more machine machine_text so_far here

  -- the draft with what this row gives
  pub draft_next : (old new : Draft) (t : TextView) (ps : List Part) → t ≡ text_from machine machine_text so_far
      → ps ≡ parts_at machine t here → Adds old new ps
      → IsDraftOf (parts_from machine machine_text so_far) old
      → IsDraftOf (parts_from machine machine_text (take (i + 1) (row_list_view rs))) new
  draft_next old new t ps text is adds was =
      subst (λ qs. IsDraftOf qs new) (ap (λ more. parts_from machine machine_text so_far ++ more)
      (is ∙ ap (λ u. parts_at machine u here) text) ∙ sym parts_next)
      (adds (parts_from machine machine_text so_far) was)

-- the number of a mode is kept
pub modes_kept_few : (rows : Rows) (rs : List written.Row) (i : ℕ) (t : TextView) → row_list_view rs ≡ rows_of rows
    → AreFewModes rows.modes
    → t ≡ text_from rows.machine machine_text (take i (row_list_view rs)) → t.modes < 65535
modes_kept_few rows rs i t are few is =
    subst (λ n. n < 65535) (sym (ap (λ u. u.modes)
    (is ∙ ap (λ xs. text_from rows.machine machine_text (take i xs)) are))) (few_modes rows i few)

-- ---- above a limit

-- a table of names says whether there are more than its limit
pub judged : (us : List Use) (held : held_names.Names) (t : Table) → AreNamesOf us held
    → is_table_above held t ≡ nat_lt (limit_of t) (length (names_by us t))
judged us held t are = at (slice_get_cases held.tables.items (order_of t)).1
  where
    by : (k : NameTable) → k.limit ≡ limit_of t → IsNameTableOf (names_by us t) k
        → k.above ≡ nat_lt (limit_of t) (length (names_by us t))
    by k limit (inl (above, more)) = above
        ∙ sym (lt-ltb (limit_of t) (length (names_by us t)) (omega (arith, more, limit)))
    by k limit (inr (below, same, fits)) = below
        ∙ sym (le-ltb (limit_of t) (length (names_by us t)) (omega (arith, fits, limit)))

    at : ((k : NameTable) × (order_of t < length held.tables.items)
        × (slice_get held.tables.items (order_of t) ≡ Some k) × (get_or held.tables.items (order_of t) k ≡ k))
        ⊎ ((length held.tables.items ≤ order_of t) × (slice_get held.tables.items (order_of t) ≡ None))
        → is_table_above held t ≡ nat_lt (limit_of t) (length (names_by us t))
    at (inl (k, inside, there, same)) = ap is_above there ∙ by k (are.limits t k there) (are.names t k there)
    at (inr (past, none)) = absurd (omega (arith, past, held.count, place_within t))

-- how many names the plan has of a table
names_counted : (ps : List Part) (t : Table) → HasNames t
    → length (names_by (flat_map part_uses ps) t) ≡ entry_count (plan_by (names_of ps) ps) t
unfolding plan_by names_of
names_counted ps Events named = refl
names_counted ps Switches named = sym (length-map (names_of ps Switches) (switch_called (names_of ps) ps))
names_counted ps Coils named = sym (length-map (names_of ps Coils) (coil_called (names_of ps) ps))
names_counted ps Variables named = refl
names_counted ps tables.Bindings named = absurd named
names_counted ps tables.Rows named = absurd named

pub above_by_names : (ps : List Part) (d : Draft) (t : Table) → HasNames t → IsDraftOf ps d
    → is_table_above d.names t ≡ nat_lt (limit_of t) (entry_count (plan_by (names_of ps) ps) t)
above_by_names ps d t named is = judged (flat_map part_uses ps) d.names t is.names
    ∙ ap (nat_lt (limit_of t)) (names_counted ps t named)

-- too many events in some of the rows are too many in all, and events are judged first
pub many_events : (machine : List SectionRows) (rs : List written.Row) (n : ℕ) (d : Draft)
    → IsDraftOf (parts_from machine machine_text (take n (row_list_view rs))) d → is_table_above d.names Events ≡ true
    → first_above (plan_by (names_of (parts_from machine machine_text (row_list_view rs)))
    (parts_from machine machine_text (row_list_view rs))) ≡ Some Events
unfolding plan_by names_of
many_events machine rs n d is above =
    ap (λ b. cond b (Some Events) (find (λ t. nat_lt (limit_of t) (entry_count (plan_by (names_of all) all) t))
    (tables.Bindings ∷ Switches ∷ Coils ∷ Variables ∷ tables.Rows ∷ [])))
    (lt-ltb 4096 (length (names_of all Events)) more)
  where
    all : List Part
    all = parts_from machine machine_text (row_list_view rs)

    front : List Part
    front = parts_from machine machine_text (take n (row_list_view rs))

    rest : List Part
    rest = parts_from machine (text_from machine machine_text (take n (row_list_view rs))) (drop n (row_list_view rs))

    uses : flat_map part_uses all ≡ flat_map part_uses front ++ flat_map part_uses rest
    uses =
        ap (λ xs. flat_map part_uses (parts_from machine machine_text xs)) (sym (take-append-drop n (row_list_view rs)))
        ∙ ap (flat_map part_uses) (parts_of_more machine machine_text (take n (row_list_view rs))
        (drop n (row_list_view rs)))
        ∙ flat_map-append part_uses front rest

    too_many : 4096 < length (names_by (flat_map part_uses front) Events)
    too_many = ltb-true 4096 (length (names_by (flat_map part_uses front) Events))
        (sym (judged (flat_map part_uses front) d.names Events is.names) ∙ above)

    more : 4096 < length (names_of all Events)
    more =
        omega (
          arith,
          too_many,
          names_grow (flat_map part_uses front) (flat_map part_uses rest) Events,
          ap (λ us. length (names_by us Events)) uses,
        )

-- ---- one row

-- something unknown comes first, if a row names it
pub adds_where_unknown : (d : Draft) (holds : Bool) → Adds d d (if holds then unknown ∷ [] else [])
adds_where_unknown d true = adds_unknown d
adds_where_unknown d false = adds_none d

-- all rows are taken
pub rows_all : (rs : List written.Row) (i : ℕ) → length rs ≤ i → take i (row_list_view rs) ≡ row_list_view rs
rows_all rs i all = take_all i (row_list_view rs) (omega (arith, all, length-map rs row_view))

-- ---- the first that passes

module _ {X : Type 0} (p : X → Bool) (xs : List X) (i : ℕ) (d : X) (within : i < length xs) where
  -- is not this one
  pub find_next : p (get_or xs i d) ≡ false → find p (drop i xs) ≡ find p (drop (i + 1) xs)
  find_next fails = ap (find p) (drop_more xs i d within)
      ∙ ap (λ b. cond b (Some (get_or xs i d)) (find p (drop (i + 1) xs))) fails

  -- is this one
  pub find_here : p (get_or xs i d) ≡ true → find p (drop i xs) ≡ Some (get_or xs i d)
  find_here passes = ap (find p) (drop_more xs i d within)
      ∙ ap (λ b. cond b (Some (get_or xs i d)) (find p (drop (i + 1) xs))) passes

-- a table that is neither of bindings nor of rows has names
pub has_names : (t : Table) → (t ≡ tables.Bindings → ⊥) → (t ≡ tables.Rows → ⊥) → HasNames t
has_names Events other more = tt
has_names Switches other more = tt
has_names Coils other more = tt
has_names Variables other more = tt
has_names tables.Bindings other more = other refl
has_names tables.Rows other more = more refl
