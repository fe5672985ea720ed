-- The plan of rows is valid if its tables are within their limits.
use Rattle.std.proofs.Common.{rules, ◌≡◌, ◌≢◌, ℕ, suc, ◌+◌, ◌*◌, ◌≤◌, Bool, true, false, if◌then◌else◌, List, []}
use Rattle.std.proofs.Common.{◌∷◌, length, map, get_or, refl, sym, ap, subst, arith}
use Rattle.std.specs.{Prelude.Ok, Str.bytes_eq, List.{All, AllPairs, flat_map, sum_by, list_any}}
use Rattle.std.proofs.lemmas.List.{length-map, Sums.sum_by-cons}
use Rattle.std.proofs.lemmas.List.Elements.{All-nil, All-cons, All-head, All-tail, All-map, All-weaker}
use Rattle.mpf_config.specs.{Rows.Rows, Short.AreListsShort, FewModes.AreFewModes, States.HaveStates}
use Rattle.plan_tables.specs.declared.entries.{Action.Action, CoilLimits.CoilLimits}
use Rattle.plan_tables.specs.declared.entries.Owner.TheVariants as owners
use Rattle.plan_tables.specs.declared.entries.Target.TheVariants as targets
use Rattle.plan_tables.specs.declared.devices.{Act.Act, DeviceRow.DeviceRow, RowId.RowId, Settings.Settings}
use Rattle.plan_tables.specs.declared.table.Table.{Table, TheVariants.{Events, Bindings, Switches, Coils, Variables}}
use Rattle.plan_tables.specs.declared.table.Table.TheVariants as tables
use Rattle.plan_tables.specs.{PlanView.{PlanView, row_at}, Devices.{IsWithinLimits, list_count}}
use Rattle.plan_tables.specs.Valid.{IsListenerWithin, IsValid, HasEntries}
use Rattle.plan_tables.{specs.Limits.{entry_count, entry_names, limit_of}, proofs.RowLists.few_lists}
use Rattle.plan_parts.specs.Parts.{Whose, Device, run, Part, coil, handler, device, parts_of}
use Rattle.plan_parts.specs.{PartBounds.{IsFew, AreLimits, IsPart, IsPartOf}, PartKinds.{rows_of_parts, is_game_part}}
use Rattle.plan_parts.proofs.RowFacts.{parts_are}
use Rattle.mpf_plan.specs.{Uses.Names, ByName.{AreLimitsByName, ListenersAreOwn}, ByNumber.action_of}
use Rattle.mpf_plan.specs.PlanOf.{row_count, lists_in, placed_from, part_places, lacks_name, names_of, device_row}
use Rattle.mpf_plan.specs.PlanOf.{first_list, limits_for, actions_in, plan_by, plan_of, plan_at}
use Rattle.mpf_plan.proofs.{Judged.{plan_at-Ok, plan_at-complete}, Limited.{limits_by_name, coils_within}}
use Rattle.mpf_plan.proofs.{Tables.{named_apart, names-by}, PlacedParts.parts_placed}
use Rattle.mpf_plan.proofs.Laws.{list_count as count_lists, binding_count, rows_of_all, lists_of_all}
use Rattle.mpf_plan.proofs.Laws.{bindings_counted, rows_counted, lists_counted}
use Rattle.mpf_plan.proofs.Owned.{IsOwnTarget, IsOwnBinding, IsOwnListener, IsOwnSwitch, own_switches, own_bindings}
use Rattle.mpf_plan.proofs.{PlanEntries.has_entries, GameWorks.game_works_are}
use Rattle.mpf_plan.proofs.{ModesMade.modes-count, ModeWorks.works_are}
use Rattle.yaml_bytes.proofs.Each.{All-flat_map}

-- ---- effect lists

module _ (S Short : Type 0) (modes : ℕ) (devices : List (Whose × Device)) (has : Bool) (s : S) (short : Short) where
  abbrev Is : Part → Type 0
  Is p = IsPart S Short modes devices has p

  lists_one : (p : Part) → Is p → count_lists p ≤ binding_count p + 288 * row_count p
  lists_one (handler whose e (run es)) is = omega arith
  lists_one (device whose d) is = omega (arith, is.count s, few_lists d.settings (is.limits short))
  lists_one _ is = omega arith

  lists_few : (ps : List Part) → All Is ps → lists_of_all ps ≤ sum_by binding_count ps + 288 * rows_of_all ps
  lists_few [] all = omega arith
  lists_few (p ∷ ps) all =
      omega (
        arith,
        lists_one p (All-head Is p ps all),
        lists_few ps (All-tail Is p ps all),
        sum_by-cons count_lists p ps,
        sum_by-cons binding_count p ps,
        sum_by-cons row_count p ps,
      )

  few_effects : (p : Part) → Is p → All IsFew (lists_in p)
  few_effects (handler whose e (run es)) is = All-cons IsFew es [] (is.1.1 short) (All-nil IsFew)
  few_effects (device whose d) is = is.lists short
  few_effects _ is = All-nil IsFew

-- a row has a first effect list
firsts_counted : (ps : List Part) (r l : ℕ)
    → length (flat_map (λ x. first_list x.list x.part) (placed_from r l ps))
    ≡ length (flat_map (λ x. device_row x.row x.part) (placed_from r l ps))
firsts_counted [] r l = refl
firsts_counted (device whose d ∷ ps) r l = ap suc (firsts_counted ps (r + 1) (l + length d.lists))
firsts_counted (p ∷ ps) r l = firsts_counted ps (r + row_count p) (l + length (lists_in p))

-- ---- what holds of the rows of a configuration

module _ (rows : Rows) where
  abbrev ps : List Part
  ps = parts_of rows

  abbrev names : Names
  names = names_of (parts_of rows)

  abbrev plan : PlanView
  plan = plan_by (names_of (parts_of rows)) (parts_of rows)

  abbrev Good : Part → Type 0
  Good p = IsPartOf rows p

  -- each part where it is placed
  sited : All (λ x. Good x.part) (part_places ps)
  sited = parts_placed Good ps (parts_are rows)

  -- bindings act on rows of their own owner alone, and rows of the machine alone listen to switches
  abbrev AreOwn : PlanView → Type 0
  AreOwn p = All (IsOwnBinding p.rows) p.bindings × All (IsOwnSwitch p.rows) p.switches

  are_own : AreOwn plan
  unfolding plan_by
  are_own =
      let has = list_any is_game_part ps in (
        own_bindings (HaveStates rows) (AreListsShort rows) names ps (length rows.modes) has (parts_are rows),
        own_switches (HaveStates rows) (AreListsShort rows) names ps (length rows.modes) has (parts_are rows),
      )

  entries : HaveStates rows → HasEntries plan
  entries states =
      has_entries (HaveStates rows) (AreListsShort rows) ps (length rows.modes) (parts_are rows)
      (modes-count names rows)
      (All-weaker (IsOwnSwitch plan.rows) (λ s. All (IsListenerWithin (length plan.rows)) s.listeners)
      (λ s. All-weaker (IsOwnListener plan.rows) (IsListenerWithin (length plan.rows)) (λ l is. is.0) s.listeners)
      plan.switches are_own.1) states

  firsts : length plan.row_lists ≡ length plan.rows
  unfolding plan_by part_places
  firsts = firsts_counted ps 0 0

  -- what parts say of coils is within bounds
  limits_are : (name : List ℕ) → All AreLimits (flat_map (limits_for name) ps)
  limits_are name =
      All-flat_map AreLimits (limits_for name) ps (λ i p within. of_part (get_or ps i p) (parts_are rows i p within))
    where
      where_it : (b : Bool) (limits : CoilLimits) → AreLimits limits → All AreLimits (if b then limits ∷ [] else [])
      where_it true limits is = All-cons AreLimits limits [] is (All-nil AreLimits)
      where_it false limits is = All-nil AreLimits

      of_part : (p : Part) → Good p → All AreLimits (limits_for name p)
      of_part (coil n limits) is = where_it (bytes_eq name n) limits is
      of_part _ is = All-nil AreLimits

  module _ (short : AreListsShort rows) where
    settings_within : All (λ row. IsWithinLimits row.settings) plan.rows
    unfolding plan_by
    settings_within =
        let W : DeviceRow → Type 0 = λ row. IsWithinLimits row.settings in
        All-flat_map W (λ x. device_row x.row x.part) (part_places ps)
        (λ i x within. of_part (get_or (part_places ps) i x).part (get_or (part_places ps) i x).row (sited i x within))
      where
        of_part : (p : Part) (r : RowId) → Good p
            → All (λ (row : DeviceRow). IsWithinLimits row.settings) (device_row r p)
        of_part (device whose d) r is =
            All-cons (λ (row : DeviceRow). IsWithinLimits row.settings)
            (record { number = r; owner = whose.owner; settings = d.settings }) [] (is.limits short)
            (All-nil (λ (row : DeviceRow). IsWithinLimits row.settings))
        of_part _ r is = All-nil (λ (row : DeviceRow). IsWithinLimits row.settings)

    actions_few : HaveStates rows → All (λ actions. length actions ≤ 1024) plan.lists
    unfolding plan_by
    actions_few states =
        let F : List Action → Type 0 = λ actions. length actions ≤ 1024 in
        All-flat_map F (λ x. actions_in names x.row x.part) (part_places ps)
        (λ i x within.
        let y = get_or (part_places ps) i x in
        let few = few_effects (HaveStates rows) (AreListsShort rows) (length rows.modes) (rows_of_parts ps)
        (list_any is_game_part ps) states short y.part (sited i x within) in
        All-map F (map (action_of names y.row)) (lists_in y.part)
        (λ j es inside. omega
        (arith, few j es inside, length-map (get_or (lists_in y.part) j es) (action_of names y.row))))

    -- If no name is lacking, each table is within its limit, no list in the rows is too long, and there are few modes,
    -- the
    -- plan is valid.
    valid : AreFewModes rows.modes → HaveStates rows → lacks_name ps ≡ false
        → ((t : Table) → entry_count plan t ≤ limit_of t) → IsValid plan
    valid modes states none within =
        let limit : length plan.bindings ≤ 16384 = within Bindings in
        let few : length plan.rows ≤ 1024 = within tables.Rows in
        let lists = lists_few (HaveStates rows) (AreListsShort rows) (length rows.modes) (rows_of_parts ps)
        (list_any is_game_part ps) states short ps (parts_are rows) in
        record {
          mode_limit = omega (arith, modes.few, modes-count names rows);
          event_limit = within Events;
          binding_limit = limit;
          switch_limit = within Switches;
          coil_limit = within Coils;
          variable_limit = within Variables;
          list_limit =
              omega
              (arith, limit, few, lists, bindings_counted names ps, rows_counted names ps, lists_counted names ps);
          row_limit = few;
          row_lists = firsts;
          coils = coils_within ps limits_are none;
          settings = settings_within;
          action_limit = actions_few states;
          names = apart;
          entries = entries states;
          works = works_are rows modes.apart;
          game_works = game_works_are rows;
        }
      where
        apart : (t : Table) → AllPairs (λ x y. x ≢ y) (entry_names plan t)
        apart t = subst (AllPairs (λ x y. x ≢ y)) (sym (names-by ps t)) (named_apart ps t)

-- ---- the plan of rows

pub IsValid-plan_of : (rows : Rows) → AreListsShort rows → AreFewModes rows.modes → HaveStates rows
    → lacks_name (parts_of rows) ≡ false → ((t : Table) → entry_count (plan_of rows) t ≤ limit_of t)
    → IsValid (plan_of rows)
unfolding plan_of
IsValid-plan_of rows short few states none within = valid rows short few states none within

HasEntries-plan_of : (rows : Rows) → HaveStates rows → HasEntries (plan_of rows)
unfolding plan_of
HasEntries-plan_of rows states = entries rows states

pub HasEntries-plan_at : (rows : Rows) → HaveStates rows → (plan : PlanView) → plan_at rows ≡ Ok plan
    → HasEntries plan
HasEntries-plan_at rows states plan is =
    subst HasEntries (sym (plan_at-Ok rows plan is).0) (HasEntries-plan_of rows states)

own-plan_of : (rows : Rows) → AreOwn rows (plan_of rows)
unfolding plan_of
own-plan_of rows = are_own rows

pub own-plan_at : (rows : Rows) (plan : PlanView) → plan_at rows ≡ Ok plan
    → All (λ b. (r : RowId) (act : Act) → b.target ≡ targets.Act r act → (row_at plan r).owner ≡ b.owner) plan.bindings
own-plan_at rows plan is =
    let own = subst (AreOwn rows) (sym (plan_at-Ok rows plan is).0) (own-plan_of rows) in
    All-weaker (IsOwnBinding plan.rows)
    (λ b. (r : RowId) (act : Act) → b.target ≡ targets.Act r act → (row_at plan r).owner ≡ b.owner)
    (λ b h r act acts. (subst (IsOwnTarget plan.rows b.owner) acts h).1) plan.bindings own.0

pub listeners-plan_at : (rows : Rows) (plan : PlanView) → plan_at rows ≡ Ok plan → ListenersAreOwn plan
listeners-plan_at rows plan is =
    let own = subst (AreOwn rows) (sym (plan_at-Ok rows plan is).0) (own-plan_of rows) in
    All-weaker (IsOwnSwitch plan.rows) (λ s. All (λ l. (row_at plan l.row).owner ≡ owners.Machine) s.listeners)
    (λ s. All-weaker (IsOwnListener plan.rows) (λ l. (row_at plan l.row).owner ≡ owners.Machine) (λ l h. h.1)
    s.listeners) plan.switches own.1

limits-plan_of : (rows : Rows) → lacks_name (parts_of rows) ≡ false → AreLimitsByName (parts_of rows) (plan_of rows)
unfolding plan_of
limits-plan_of rows none = limits_by_name (parts_of rows) none

-- each coil may be sent what the rows say of its name
pub limits-plan_at : (rows : Rows) (plan : PlanView) → plan_at rows ≡ Ok plan → AreLimitsByName (parts_of rows) plan
limits-plan_at rows plan is =
    subst (AreLimitsByName (parts_of rows)) (sym (plan_at-Ok rows plan is).0)
    (limits-plan_of rows (plan_at-complete rows plan is))

-- A plan that planning gives is valid, if no list in the rows is too long, there are few modes, and each profile of
-- shots
-- has a state.
pub IsValid-plan_at : (rows : Rows) → AreListsShort rows → AreFewModes rows.modes → HaveStates rows
    → (plan : PlanView) → plan_at rows ≡ Ok plan → IsValid plan
IsValid-plan_at rows short few states plan is =
    let given = plan_at-Ok rows plan is in
    subst IsValid (sym given.0)
    (IsValid-plan_of rows short few states (plan_at-complete rows plan is)
    (subst (λ p. (t : Table) → entry_count p t ≤ limit_of t) given.0 given.1))
