-- A draft to which one part is added: what each of its tables gains makes it the draft of one part more.
use Rattle.std.proofs.Common.{rules, ◌≡◌, ℕ, ◌+◌, ◌*◌, ◌≤◌, Bool, true, false, not, ◌||◌, List, [], ◌∷◌, ◌++◌, length}
use Rattle.std.proofs.Common.{map, filter, drop, refl, sym, ap, ap₂, ◌∙◌, subst, append-nil, append_assoc}
use Rattle.std.proofs.Common.{length-append, true≢false, arith, Option}
use Rattle.std.specs.{Str.bytes_eq, List.{All, flat_map, list_any, last_or, sum_by}}
use Rattle.std.proofs.lemmas.List.{length-map, map-append, drop_at, Sums.{sum_by-append, sum_by-cons}}
use Rattle.std.proofs.lemmas.List.Elements.{All-nil, All-cons, All-head, All-tail, All-weaker, filter_passes}
use Rattle.std.proofs.lemmas.{Bool.or_left, Slice.Eq.bytes_eq-Decides}
use Rattle.plan_tables.specs.declared.table.Table.{Table, TheVariants.{Events, Switches, Coils, Variables}}
use Rattle.plan_tables.specs.declared.table.Table.TheVariants as tables
use Rattle.plan_tables.specs.declared.{entries.ListId.ListId, devices.RowId.RowId}
use Rattle.plan_tables.specs.{PlanView.{PlanView, PlanSwitch, PlanCoil}, Limits.{entry_count, limit_of}}
use Rattle.plan_tables.specs.PlanFields.{action_lists, coils_view, mode_entry_view, switches_view}
use Rattle.plan_parts.specs.Parts.{Part, handler, device, run, start, stop, act_on}
use Rattle.mpf_plan.specs.{declared.draft.Draft.Draft, Uses.{Names, first_uses}}
use Rattle.mpf_plan.specs.PlanOf.{Use, in_table, part_uses, names_of, row_count, lists_in, plan_by, bindings_in}
use Rattle.mpf_plan.specs.PlanOf.{actions_in, device_row, first_list, plan_mode, rules_in, switch_called, coil_called}
use Rattle.mpf_plan.specs.Drafting.{kept_names, names_by, AreNamesOf, AreWithin, HasNames, Notes, IfWithin, HasOneEach}
use Rattle.mpf_plan.specs.Drafting.{named_switch, named_coil, new_names, draft_view, HasCounts, IsKept, IsDraftOf, Adds}
use Rattle.mpf_plan.proofs.{Firsts.later_uses, Called.coil_called-more}
use Rattle.mpf_plan.proofs.{Numbered.Stay, Noted.kept_all, Kept.{parts_stay, switches_stay}}
use Rattle.mpf_plan.proofs.Named.{names_more, names_grow, added_names, within_front, any_first, names_of-uses}
use Rattle.mpf_plan.proofs.Laws.{list_count, binding_count, rows_of_all, lists_of_all, one_more, bindings_pushed}
use Rattle.mpf_plan.proofs.Laws.{lists_pushed, rows_pushed, row_lists_pushed, modes_pushed, game_pushed}
use Rattle.mpf_plan.proofs.Laws.{bindings_counted, rows_counted, lists_counted}
use Rattle.mpf_plan.proofs.Kept.{bindings_kept, lists_kept, modes_kept, game_kept, rows_kept, row_lists_kept, uses_stay}
use Rattle.mpf_plan.proofs.Called.{with_part, coil_with, switch_unused, coil_unused, switch_called-more}

-- ---- limits

-- no table of the plan of these parts is above its limit
abbrev pub InLimits : List Part → Type 0
InLimits ps = (t : Table) → entry_count (plan_by (names_of ps) ps) t ≤ limit_of t

-- so their names are within the limits
pub within_names : (ps : List Part) → InLimits ps → AreWithin (flat_map part_uses ps)
unfolding plan_by names_of
within_names ps limits Events named = limits Events
within_names ps limits Switches named = let fits = limits Switches
    in omega (arith, fits, length-map (names_of ps Switches) (switch_called (names_of ps) ps))
within_names ps limits Coils named = let fits = limits Coils
    in omega (arith, fits, length-map (names_of ps Coils) (coil_called (names_of ps) ps))
within_names ps limits Variables named = limits Variables
within_names ps limits tables.Bindings named = absurd named
within_names ps limits tables.Rows named = absurd named

sum-more : (f : Part → ℕ) (ps : List Part) (p : Part) → sum_by f (ps ++ p ∷ []) ≡ sum_by f ps + f p
sum-more f ps p = sum_by-append f ps (p ∷ []) ∙ ap (λ n. sum_by f ps + n) (sum_by-cons f p [] ∙ omega arith)

-- how many rows there are within the limits, and how many effect lists
pub few_rows : (ps : List Part) → InLimits ps → rows_of_all ps ≤ 1024
few_rows ps limits = let fits = limits tables.Rows in omega (arith, fits, rows_counted (names_of ps) ps)

lists_bounded : (ps : List Part) → All IsKept ps → lists_of_all ps ≤ sum_by binding_count ps + 65535 * rows_of_all ps
lists_bounded [] kept = omega arith
lists_bounded (p ∷ ps) kept =
    let here = one p (All-head IsKept p ps kept) in
    let rest = lists_bounded ps (All-tail IsKept p ps kept) in
    omega (arith, here, rest, sum_by-cons list_count p ps, sum_by-cons binding_count p ps, sum_by-cons row_count p ps)
  where
    one : (p : Part) → IsKept p → list_count p ≤ binding_count p + 65535 * row_count p
    one (device w d) is = omega (arith, is)
    one (handler w e (run es)) is = omega arith
    one (handler w e (start m)) is = omega arith
    one (handler w e (stop m)) is = omega arith
    one (handler w e (act_on r a)) is = omega arith
    one x1 is = omega arith

pub few_lists : (ps : List Part) → All IsKept ps → InLimits ps → lists_of_all ps ≤ 4294967295
few_lists ps kept limits =
    let bound = limits tables.Bindings in
    omega (arith, bound, lists_bounded ps kept, few_rows ps limits, bindings_counted (names_of ps) ps)

-- what holds of parts holds of the first of them
all_first : {X : Type 0} (P : X → Type 0) (xs ys : List X) → All P (xs ++ ys) → All P xs
all_first P [] ys all = All-nil P
all_first P (x ∷ xs) ys all =
    search (rules, All-cons, All-head, All-tail, all_first P xs ys (All-tail P x (xs ++ ys) all))

all_last : {X : Type 0} (P : X → Type 0) (xs : List X) (y : X) → All P (xs ++ y ∷ []) → P y
all_last P [] y all = All-head P y [] all
all_last P (x ∷ xs) y all = all_last P xs y (All-tail P x (xs ++ y ∷ []) all)

-- fewer parts are within the limits too
pub fewer : (ps : List Part) (p : Part) → InLimits (ps ++ p ∷ []) → InLimits ps
unfolding plan_by names_of
fewer ps p limits = by
  where
    us : List Use
    us = flat_map part_uses ps

    grow : (t : Table) → length (names_of ps t) ≤ length (names_of (ps ++ p ∷ []) t)
    grow t = omega (arith, names_grow us (part_uses p) t, ap (λ xs. length (names_by xs t)) (one_more part_uses ps p))

    by : (t : Table) → entry_count (plan_by (names_of ps) ps) t ≤ limit_of t
    by Events = let fits = limits Events in omega (arith, fits, grow Events)
    by Switches =
        let fits = limits Switches in
        omega (
          arith,
          fits,
          grow Switches,
          length-map (names_of ps Switches) (switch_called (names_of ps) ps),
          length-map (names_of (ps ++ p ∷ []) Switches) (switch_called (names_of (ps ++ p ∷ [])) (ps ++ p ∷ [])),
        )
    by Coils =
        let fits = limits Coils in
        omega (
          arith,
          fits,
          grow Coils,
          length-map (names_of ps Coils) (coil_called (names_of ps) ps),
          length-map (names_of (ps ++ p ∷ []) Coils) (coil_called (names_of (ps ++ p ∷ [])) (ps ++ p ∷ [])),
        )
    by Variables = let fits = limits Variables in omega (arith, fits, grow Variables)
    by tables.Bindings =
        let fits = limits tables.Bindings in
        omega (
          arith,
          fits,
          bindings_counted (names_of ps) ps,
          bindings_counted (names_of (ps ++ p ∷ [])) (ps ++ p ∷ []),
          sum-more binding_count ps p,
        )
    by tables.Rows =
        let fits = limits tables.Rows in
        omega (
          arith,
          fits,
          rows_counted (names_of ps) ps,
          rows_counted (names_of (ps ++ p ∷ [])) (ps ++ p ∷ []),
          sum-more row_count ps p,
        )

-- ---- switches and coils

pub map_map : {X Y Z : Type 0} (f : Y → Z) (g : X → Y) (h : X → Z) → ((x : X) → h x ≡ f (g x)) → (xs : List X)
    → map h xs ≡ map f (map g xs)
map_map f g h same [] = refl
map_map f g h same (x ∷ xs) = ap₂ (λ y ys. y ∷ ys) (same x) (map_map f g h same xs)

pub map_same : {X Y : Type 0} (f g : X → Y) (xs : List X) → All (λ x. f x ≡ g x) xs → map f xs ≡ map g xs
map_same f g [] all = refl
map_same f g (x ∷ xs) all = ap₂ (λ y ys. y ∷ ys) (All-head (λ x. f x ≡ g x) x xs all)
    (map_same f g xs (All-tail (λ x. f x ≡ g x) x xs all))

-- a name that is added was not used before
not_used : (n : List ℕ) (us : List (List ℕ)) → not (list_any (λ m. bytes_eq n m) (first_uses us)) ≡ true
    → list_any (bytes_eq n) us ≡ false
not_used n us new = sym (any_first n us) ∙ by (list_any (bytes_eq n) (first_uses us)) new
  where
    by : (b : Bool) → not b ≡ true → b ≡ false
    by true is = sym is
    by false is = refl

module _ (us vs : List Use) where
  pub all_new : (t : Table) → All (λ n. list_any (bytes_eq n) (in_table t us) ≡ false) (added_names us vs t)
  all_new t =
      let is_new : List ℕ → Bool = λ n. not (list_any (λ m. bytes_eq n m) (first_uses (in_table t us))) in
      All-weaker (λ n. is_new n ≡ true) (λ n. list_any (bytes_eq n) (in_table t us) ≡ false)
      (λ n new. not_used n (in_table t us) new) (added_names us vs t)
      (filter_passes is_new (first_uses (in_table t vs)))

  -- those are the names that are new
  pub new-added : (t : Table) → new_names (names_by us t) (names_by (us ++ vs) t) ≡ added_names us vs t
  new-added t = ap (drop (length (names_by us t))) (names_more us vs t)
      ∙ drop_at (names_by us t) (added_names us vs t) (length (names_by us t)) refl

module _ (ps : List Part) (p : Part) where
  abbrev us : List Use
  us = flat_map part_uses ps

  abbrev old_names : Names
  old_names = names_by us

  abbrev names : Names
  names = names_by (us ++ part_uses p)

  abbrev row : RowId
  row = record { 0 = rows_of_all ps }

  -- the switches of one part more
  switches_pushed : (plan_by names (ps ++ p ∷ [])).switches
      ≡ map (with_part names row p) ((plan_by old_names ps).switches
      ++ map named_switch (added_names us (part_uses p) Switches))
  unfolding plan_by
  switches_pushed =
      let added = added_names us (part_uses p) Switches in
      map_map (with_part names row p) (switch_called names ps) (switch_called names (ps ++ p ∷ []))
      (λ n. switch_called-more names n ps p) (names Switches)
      ∙ ap (map (with_part names row p))
      (ap (map (switch_called names ps)) (names_more us (part_uses p) Switches)
      ∙ map-append (switch_called names ps) (old_names Switches) added
      ∙ ap₂ (λ xs ys. xs ++ ys)
      (λ i. map (λ n. sym (switches_stay n ps old_names names (uses_stay us (part_uses p))) i) (old_names Switches))
      (map_same (switch_called names ps) named_switch added
      (All-weaker (λ n. list_any (bytes_eq n) (in_table Switches us) ≡ false)
      (λ n. switch_called names ps n ≡ named_switch n) (λ n none. switch_unused n names ps none) added
      (all_new us (part_uses p) Switches))))

  coils_pushed : (plan_by names (ps ++ p ∷ [])).coils
      ≡ map (coil_with p) ((plan_by old_names ps).coils ++ map named_coil (added_names us (part_uses p) Coils))
  unfolding plan_by
  coils_pushed =
      let added = added_names us (part_uses p) Coils in
      map_map (coil_with p) (coil_called names ps) (coil_called names (ps ++ p ∷ []))
      (λ n. coil_called-more names n ps p) (names Coils)
      ∙ ap (map (coil_with p))
      (ap (map (coil_called names ps)) (names_more us (part_uses p) Coils)
      ∙ map-append (coil_called names ps) (old_names Coils) added
      ∙ ap (λ ys. map (coil_called old_names ps) (old_names Coils) ++ ys)
      (map_same (coil_called names ps) named_coil added
      (All-weaker (λ n. list_any (bytes_eq n) (in_table Coils us) ≡ false)
      (λ n. coil_called names ps n ≡ named_coil n) (λ n none. coil_unused n names ps none) added
      (all_new us (part_uses p) Coils))))

-- ---- one part more

-- the switches of a draft, and its coils
abbrev pub switches_in : Draft → List PlanSwitch
switches_in d = switches_view (kept_names d.names Switches) d.switches.items

abbrev pub coils_in : Draft → List PlanCoil
coils_in d = coils_view (kept_names d.names Coils) d.coils.items

-- what the tables gain by a part, under these names, if its row and its first effect list have these numbers
pub record GainsPart (old new : Draft) (p : Part) (ns : Names) (row : RowId) (list : ListId) : Type 0 where
  pub modes : map mode_entry_view new.modes.items ≡ map mode_entry_view old.modes.items ++ plan_mode ns p
  pub switches : switches_in new
      ≡ map (with_part ns row p) (switches_in old
      ++ map named_switch (new_names (kept_names old.names Switches) (kept_names new.names Switches)))
  pub coils : coils_in new
      ≡ map (coil_with p) (coils_in old ++ map named_coil
      (new_names (kept_names old.names Coils) (kept_names new.names Coils)))
  pub lists : action_lists new.lists.items ≡ action_lists old.lists.items ++ actions_in ns row p
  pub bindings : new.bindings.items ≡ old.bindings.items ++ bindings_in ns row list p
  pub rows : new.rows.items ≡ old.rows.items ++ device_row row p
  pub row_lists : new.row_lists.items ≡ old.row_lists.items ++ first_list list p
  pub game : new.game ≡ last_or old.game (rules_in ns p)

-- a part is added
pub record Grows (old new : Draft) (p : Part) : Type 0 where
  pub names : Notes old.names new.names (part_uses p)
  pub has_switches : IfWithin old.names (part_uses p)
      (HasOneEach Switches old.names old.switches → HasOneEach Switches new.names new.switches)
  pub has_coils : IfWithin old.names (part_uses p)
      (HasOneEach Coils old.names old.coils → HasOneEach Coils new.names new.coils)
  pub count_bindings : length new.bindings.items ≡ length old.bindings.items + binding_count p
  pub count_rows : length new.rows.items ≡ length old.rows.items + row_count p
  pub count_lists : length new.lists.items ≡ length old.lists.items + list_count p
  pub tables : (us : List Use) → AreNamesOf us old.names → AreWithin (us ++ part_uses p)
      → HasOneEach Switches old.names old.switches → HasOneEach Coils old.names old.coils
      → IsKept p → length old.rows.items ≤ 65535 → length old.lists.items ≤ 4294967295
      → GainsPart old new p (names_by (us ++ part_uses p)) (record { 0 = length old.rows.items })
      (record { 0 = length old.lists.items })

module _ (old new : Draft) (p : Part) (g : Grows old new p) (ps : List Part) (d : IsDraftOf ps old) where
  abbrev before : List Use
  before = flat_map part_uses ps

  abbrev all : List Use
  all = before ++ part_uses p

  abbrev qs : List Part
  qs = ps ++ p ∷ []

  more : flat_map part_uses qs ≡ all
  more = one_more part_uses ps p

  counts : HasCounts qs new
  counts = record {
    bindings =
        omega (
          arith,
          g.count_bindings,
          d.counts.bindings,
          bindings_counted (names_of ps) ps,
          bindings_counted (names_of qs) qs,
          sum-more binding_count ps p,
        );
    rows =
        omega (
          arith,
          g.count_rows,
          d.counts.rows,
          rows_counted (names_of ps) ps,
          rows_counted (names_of qs) qs,
          sum-more row_count ps p,
        );
    lists =
        omega (
          arith,
          g.count_lists,
          d.counts.lists,
          lists_counted (names_of ps) ps,
          lists_counted (names_of qs) qs,
          sum-more list_count ps p,
        );
  }

  module _ (kept : All IsKept qs) (limits : InLimits qs) where
    abbrev fits : InLimits ps
    fits = fewer ps p limits

    abbrev kept_before : All IsKept ps
    kept_before = all_first IsKept ps (p ∷ []) kept

    within : AreWithin all
    within = subst AreWithin more (within_names qs limits)

    rows_here : length old.rows.items ≡ rows_of_all ps
    rows_here = d.counts.rows ∙ rows_counted (names_of ps) ps

    lists_here : length old.lists.items ≡ lists_of_all ps
    lists_here = d.counts.lists ∙ lists_counted (names_of ps) ps

    gains : GainsPart old new p (names_by all) (record { 0 = rows_of_all ps }) (record { 0 = lists_of_all ps })
    gains =
        subst (λ n. GainsPart old new p (names_by all) (record { 0 = rows_of_all ps }) (record { 0 = n })) lists_here
        (subst (λ n. GainsPart old new p (names_by all) (record { 0 = n }) (record { 0 = length old.lists.items }))
        rows_here
        (g.tables before d.names within (d.switches (within_front before (part_uses p) within))
        (d.coils (within_front before (part_uses p) within))
        (all_last IsKept ps p kept) (omega (arith, rows_here, few_rows ps fits))
        (omega (arith, lists_here, few_lists ps kept_before fits))))

    was : draft_view old ≡ plan_by (names_by before) ps
    was = d.plan kept_before fits ∙ ap (λ ns. plan_by ns ps) (names_of-uses ps)

    stay : Stay (names_by before) (names_by all) before
    stay = uses_stay before (part_uses p)

    -- the names that are kept
    names_old : (t : Table) → HasNames t → kept_names old.names t ≡ names_by before t
    names_old t named = kept_all before old.names t d.names (within_front before (part_uses p) within t named)

    names_new : (t : Table) → HasNames t → kept_names new.names t ≡ names_by all t
    names_new t named = kept_all all new.names t (g.names before d.names) (within t named)

    names_added : (t : Table) → HasNames t
        → new_names (kept_names old.names t) (kept_names new.names t) ≡ added_names before (part_uses p) t
    names_added t named = ap₂ new_names (names_old t named) (names_new t named) ∙ new-added before (part_uses p) t

    plan_grown : draft_view new ≡ plan_by (names_by all) qs
    unfolding plan_by
    plan_grown =
        let ns = names_by all in
        let o = names_by before in
        λ i. record {
          modes = (gains.modes ∙ ap (λ ms. ms ++ plan_mode ns p) (ap (λ v. v.modes) was ∙ modes_kept ps o ns stay)
              ∙ sym (modes_pushed ns ps p)) i;
          events = names_new Events tt i;
          switches = (gains.switches ∙ ap₂
              (λ ss more. map (with_part ns (record { 0 = rows_of_all ps }) p) (ss ++ map named_switch more))
              (ap (λ v. v.switches) was) (names_added Switches tt) ∙ sym (switches_pushed ps p)) i;
          coils = (gains.coils ∙ ap₂ (λ cs more. map (coil_with p) (cs ++ map named_coil more)) (ap (λ v. v.coils) was)
              (names_added Coils tt) ∙ sym (coils_pushed ps p)) i;
          lists = (gains.lists ∙ ap (λ ls. ls ++ actions_in ns (record { 0 = rows_of_all ps }) p)
              (ap (λ v. v.lists) was ∙ lists_kept ps o ns stay) ∙ sym (lists_pushed ns ps p)) i;
          bindings = (gains.bindings ∙ ap (λ bs. bs
              ++ bindings_in ns (record { 0 = rows_of_all ps }) (record { 0 = lists_of_all ps }) p)
              (ap (λ v. v.bindings) was ∙ bindings_kept ps o ns stay) ∙ sym (bindings_pushed ns ps p)) i;
          rows = (gains.rows ∙ ap (λ rs. rs ++ device_row (record { 0 = rows_of_all ps }) p)
              (ap (λ v. v.rows) was ∙ rows_kept ps o ns) ∙ sym (rows_pushed ns ps p)) i;
          row_lists = (gains.row_lists ∙ ap (λ ls. ls ++ first_list (record { 0 = lists_of_all ps }) p)
              (ap (λ v. v.row_lists) was ∙ row_lists_kept ps o ns) ∙ sym (row_lists_pushed ns ps p)) i;
          variables = names_new Variables tt i;
          game = (gains.game ∙ ap (λ g. last_or g (rules_in ns p)) (ap (λ v. v.game) was ∙ game_kept ps o ns stay)
              ∙ sym (game_pushed ns ps p)) i;
        }

  grown : IsDraftOf qs new
  grown = record {
    names = subst (λ us. AreNamesOf us new.names) (sym more) (g.names before d.names);
    switches = λ fits. let within = subst AreWithin more fits
        in g.has_switches before d.names within (d.switches (within_front before (part_uses p) within));
    coils = λ fits. let within = subst AreWithin more fits
        in g.has_coils before d.names within (d.coils (within_front before (part_uses p) within));
    counts = counts;
    plan = λ kept limits. plan_grown kept limits ∙ ap (λ ns. plan_by ns qs) (sym (names_of-uses qs ∙ ap names_by more));
  }

pub adds_one : (old new : Draft) (p : Part) → Grows old new p → Adds old new (p ∷ [])
adds_one old new p g ps d = grown old new p g ps d

-- ---- parts, one after the other

pub adds_none : (d : Draft) → Adds d d []
adds_none d ps is = subst (λ qs. IsDraftOf qs d) (sym (append-nil ps)) is

pub adds_more : (a b c : Draft) (ps qs : List Part) → Adds a b ps → Adds b c qs → Adds a c (ps ++ qs)
adds_more a b c ps qs first then before is =
    subst (λ xs. IsDraftOf xs c) (append_assoc before ps qs) (then (before ++ ps) (first before is))
