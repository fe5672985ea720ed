-- What lacks a name, as it is looked for part by part, is what lacks one by the names that all parts give.
use Rattle.std.proofs.Common.{◌≡◌, ℕ, ◌+◌, ◌<◌, Bool, true, false, not, ◌||◌, List, [], ◌∷◌, ◌++◌, length, map, drop}
use Rattle.std.proofs.Common.{get_or, refl, sym, subst, ap, ap₂, ◌∙◌, append-nil, Option, None, Some}
use Rattle.std.specs.{Str.bytes_eq, List.{All, flat_map, list_any}}
use Rattle.std.proofs.lemmas.{Slice.Eq.bytes_eq-Decides, List.{drop_more, Elements.{All-head, All-tail}}}
use Rattle.std.proofs.lemmas.List.Folds.{list_any-append, list_any_at, list_any_none}
use Rattle.mpf_values.specs.Events.{EventCondition, Event}
use Rattle.mpf_sections.specs.Rows.{SectionRows}
use Rattle.mpf_config.specs.Rows.{Rows}
use Rattle.machine_definitions.specs.GameEvents.{game_event_names}
use Rattle.plan_tables.specs.declared.{entries.ModeId.ModeId, devices.{Act.Act, RowId.RowId, Settings.Settings}}
use Rattle.plan_tables.specs.declared.table.Table.{Table, TheVariants.{Events, Switches, Coils, Variables}}
use Rattle.plan_tables.specs.declared.table.Table.TheVariants as tables
use Rattle.plan_rows.specs.declared.rows.Row as written
use Rattle.plan_rows.specs.{Rows.{Row, rows_of}, View.{row_view, row_list_view}}
use Rattle.plan_parts.specs.Effects.{Effect, posts, works, changes, enters}
use Rattle.plan_parts.specs.{declared.row_parts.HandledName.HandledName, Parts.{stop, act_on, parts_of}}
use Rattle.plan_parts.specs.declared.row_parts.ModeControl.{ModeControl, TheVariants.{Start, Stop}}
use Rattle.plan_parts.specs.declared.row_parts.RowParts as held
use Rattle.plan_parts.specs.declared.row_parts.RowHead as heads
use Rattle.plan_parts.specs.declared.row_parts.RowHead.TheVariants as kinds
use Rattle.plan_parts.specs.Parts.{Whose, Part, switch, coil, game, mode, handler, device, mention, unknown, run, start}
use Rattle.plan_parts.specs.RowViews.{acts_view, bytes_view, control_parts, controls_view, head_parts, parts_by}
use Rattle.plan_parts.specs.RowViews.{whose_view, TextView, machine_text, text_after, parts_at, parts_from}
use Rattle.mpf_plan.specs.{Uses.{Names, is_lacking}, PlanOf.{in_table, part_gives, is_unknown, lacks_name}}
use Rattle.mpf_plan.specs.Lacking.{lacks, lacks_coil, lacks_part, parts_of_rows}
use Rattle.mpf_plan.specs.PlanOf.{Use, uses_of, condition_uses, event_uses, effect_uses, part_uses, mode_event_names}
use Rattle.mpf_plan.proofs.{Named.in_table-append, Walk.walked, DoneGiven.{switch_is_given, coil_is_given}}
use Rattle.yaml_bytes.proofs.Each.{any_mapped}

or_none : (a : Bool) → (a || false) ≡ a
or_none true = refl
or_none false = refl

regroup : (a b c d : Bool) → ((a || b) || (c || d)) ≡ ((a || c) || (b || d))
regroup true b c d = refl
regroup false true true d = refl
regroup false true false d = refl
regroup false false c d = refl

-- one of all that a function gives
pub any_flat : {X Y : Type 0} (p : Y → Bool) (f : X → List Y) (xs : List X)
    → list_any p (flat_map f xs) ≡ list_any (λ x. list_any p (f x)) xs
any_flat p f [] = refl
any_flat p f (x ∷ xs) = list_any-append p (f x) (flat_map f xs) ∙ ap (λ b. list_any p (f x) || b) (any_flat p f xs)

module _ (machine : List SectionRows) where
  -- what gives a name has its own
  abbrev IsOwn : Part → Type 0
  IsOwn (switch name kind confirms active inactive) = lacks machine Switches name ≡ false
  IsOwn (coil name limits) = lacks machine Coils name ≡ false
  IsOwn _ = Unit {0}

-- Here `there` has the names that are given, and what the machine text defines is among them.
module _ (machine : List SectionRows) (there : Names)
    (same : (t : Table) (n : List ℕ) → is_lacking there (t, n) ≡ lacks machine t n) where
  abbrev missing : Use → Bool
  missing u = is_lacking there u

  any_switches : (ns : List (List ℕ)) → list_any missing (uses_of Switches ns) ≡ list_any (lacks machine Switches) ns
  any_switches ns = any_mapped missing (λ n. (Switches, n)) ns ∙ (λ i. list_any (λ n. same Switches n i) ns)

  no_events : (ns : List (List ℕ)) → list_any missing (uses_of Events ns) ≡ false
  no_events [] = refl
  no_events (n ∷ ns) = no_events ns

  no_event : (e : Event) → list_any missing (event_uses e) ≡ false
  no_event e = by e.condition
    where
      by : (o : Option EventCondition) → list_any missing ((Events, e.name) ∷ condition_uses o) ≡ false
      by None = refl
      by (Some c) = refl

  no_handled : (hs : List (Event × Act)) → list_any missing (flat_map (λ h. event_uses h.0) hs) ≡ false
  no_handled [] = refl
  no_handled (h ∷ hs) = list_any-append missing (event_uses h.0) (flat_map (λ x. event_uses x.0) hs)
      ∙ ap₂ (λ a b. a || b) (no_event h.0) (no_handled hs)

  any_effect : (e : Effect) → list_any missing (effect_uses e) ≡ lacks_coil machine e
  any_effect (posts n) = refl
  any_effect (works n deed) = or_none (missing (Coils, n)) ∙ same Coils n
  any_effect (changes v action n) = refl
  any_effect (enters n drain) = refl
  any_effect x1 = refl

  any_effects : (es : List Effect) → list_any missing (flat_map effect_uses es) ≡ list_any (lacks_coil machine) es
  any_effects es = any_flat missing effect_uses es ∙ (λ i. list_any (λ e. any_effect e i) es)

  any_lists : (ls : List (List Effect)) → list_any missing (flat_map (flat_map effect_uses) ls)
      ≡ list_any (list_any (lacks_coil machine)) ls
  any_lists ls = any_flat missing (flat_map effect_uses) ls ∙ (λ i. list_any (λ es. any_effects es i) ls)

  event_alone : (e : Event) → list_any missing (event_uses e ++ []) ≡ false
  event_alone e = ap (list_any missing) (append-nil (event_uses e)) ∙ no_event e

  lacks_one : (p : Part) → IsOwn machine p → (is_unknown p || list_any missing (part_uses p)) ≡ lacks_part machine p
  lacks_one (switch name kind confirms active inactive) own =
      ap (list_any missing) (append-nil ((Switches, name) ∷ uses_of Events (active ++ inactive)))
      ∙ ap₂ (λ a b. a || b) (same Switches name ∙ own) (no_events (active ++ inactive))
  lacks_one (coil name limits) own = or_none (missing (Coils, name)) ∙ same Coils name ∙ own
  lacks_one (game min_balls balls_per_game max_players) own =
      ap (list_any missing) (append-nil (uses_of Events game_event_names)) ∙ no_events game_event_names
  lacks_one (mode name s) own = ap (list_any missing) (append-nil (uses_of Events (mode_event_names name)))
      ∙ no_events (mode_event_names name)
  lacks_one (handler w e (run es)) own =
      list_any-append missing (event_uses e) (flat_map (flat_map effect_uses) (es ∷ []))
      ∙ ap₂ (λ a b. a || b) (no_event e) (any_lists (es ∷ []) ∙ or_none (list_any (lacks_coil machine) es))
  lacks_one (handler w e (start m)) own = event_alone e
  lacks_one (handler w e (stop m)) own = event_alone e
  lacks_one (handler w e (act_on r a)) own = event_alone e
  lacks_one (device w d) own =
      let A = uses_of Switches d.listens in
      let B = flat_map (λ h. event_uses h.0) d.event_acts in
      let C = uses_of Events d.other_mentions in
      let D = flat_map (flat_map effect_uses) d.lists in
      list_any-append missing ((A ++ B) ++ C) D
      ∙ ap₂ (λ a b. a || b)
      (list_any-append missing (A ++ B) C
      ∙ ap₂ (λ a b. a || b) (list_any-append missing A B
      ∙ ap₂ (λ a b. a || b) (any_switches d.listens) (no_handled d.event_acts)) (no_events d.other_mentions)
      ∙ or_none (list_any (lacks machine Switches) d.listens || false)
      ∙ or_none (list_any (lacks machine Switches) d.listens))
      (any_lists d.lists)
  lacks_one (mention t name) own = or_none (missing (t, name)) ∙ same t name
  lacks_one unknown own = refl

  lacks_all : (ps : List Part) → All (IsOwn machine) ps
      → (list_any is_unknown ps || list_any missing (flat_map part_uses ps)) ≡ list_any (lacks_part machine) ps
  lacks_all [] own = refl
  lacks_all (p ∷ ps) own =
      ap (λ b. (is_unknown p || list_any is_unknown ps) || b)
      (list_any-append missing (part_uses p) (flat_map part_uses ps))
      ∙ regroup (is_unknown p) (list_any is_unknown ps) (list_any missing (part_uses p))
      (list_any missing (flat_map part_uses ps))
      ∙ ap₂ (λ a b. a || b) (lacks_one p (All-head (IsOwn machine) p ps own))
      (lacks_all ps (All-tail (IsOwn machine) p ps own))

-- ---- names that parts give

-- whether a part gives this name to the table
abbrev gives : Table → List ℕ → Part → Bool
gives t n p = list_any (bytes_eq n) (in_table t (part_gives p))

some_gives : (t : Table) (n : List ℕ) (ps : List Part)
    → list_any (bytes_eq n) (in_table t (flat_map part_gives ps)) ≡ list_any (gives t n) ps
some_gives t n [] = refl
some_gives t n (p ∷ ps) =
    ap (list_any (bytes_eq n)) (in_table-append t (part_gives p) (flat_map part_gives ps))
    ∙ list_any-append (bytes_eq n) (in_table t (part_gives p)) (in_table t (flat_map part_gives ps))
    ∙ ap (λ b. gives t n p || b) (some_gives t n ps)

-- no part gives one to the tables of bindings and of rows
gives_no_binding : (n : List ℕ) (p : Part) → gives tables.Bindings n p ≡ false
gives_no_binding n (switch name kind confirms active inactive) = refl
gives_no_binding n (coil name limits) = refl
gives_no_binding n _ = refl

gives_no_row : (n : List ℕ) (p : Part) → gives tables.Rows n p ≡ false
gives_no_row n (switch name kind confirms active inactive) = refl
gives_no_row n (coil name limits) = refl
gives_no_row n _ = refl

itself : (n : List ℕ) → (bytes_eq n n || false) ≡ true
itself n = ap (λ b. b || false) ((bytes_eq-Decides n n).1 refl)

module _ (rows : Rows) where
  abbrev ps : List Part
  ps = parts_of rows

  abbrev there : Names
  there = λ t. in_table t (flat_map part_gives (parts_of rows))

  same : (t : Table) (n : List ℕ) → is_lacking there (t, n) ≡ lacks rows.machine t n
  same Events n = refl
  same Switches n = ap not (switch_is_given rows n)
  same Coils n = ap not (coil_is_given rows n)
  same Variables n = refl
  same tables.Bindings n = ap not (some_gives tables.Bindings n ps
      ∙ list_any_none (gives tables.Bindings n) ps (λ i d within. gives_no_binding n (get_or ps i d)))
  same tables.Rows n = ap not (some_gives tables.Rows n ps
      ∙ list_any_none (gives tables.Rows n) ps (λ i d within. gives_no_row n (get_or ps i d)))

  own_at : (i : ℕ) (d : Part) → i < length ps → IsOwn rows.machine (get_or ps i d)
  own_at i d within = by (get_or ps i d) refl
    where
      given : (t : Table) (n : List ℕ) (p : Part) → get_or ps i d ≡ p → gives t n p ≡ true
          → list_any (bytes_eq n) (there t) ≡ true
      given t n p is own = some_gives t n ps ∙ list_any_at (gives t n) ps i d within (ap (gives t n) is ∙ own)

      by : (p : Part) → get_or ps i d ≡ p → IsOwn rows.machine p
      by (switch n kind confirms active inactive) is = sym (same Switches n)
          ∙ ap not (given Switches n (switch n kind confirms active inactive) is (itself n))
      by (coil n limits) is = sym (same Coils n) ∙ ap not (given Coils n (coil n limits) is (itself n))
      by _ is = tt

  -- rows lack a name if one of their parts does
  pub lacks_parts : lacks_name (parts_of rows) ≡ list_any (lacks_part rows.machine) (parts_of rows)
  unfolding lacks_name
  lacks_parts = lacks_all rows.machine there same ps own_at

  pub lacks_rows : (rs : List written.Row) → row_list_view rs ≡ rows_of rows
      → lacks_name (parts_of_rows rows rs) ≡ list_any (lacks_part rows.machine) (parts_of_rows rows rs)
  lacks_rows rs are =
      subst (λ qs. lacks_name qs ≡ list_any (lacks_part rows.machine) qs)
      (sym (ap (parts_from rows.machine machine_text) are ∙ walked rows)) lacks_parts

-- ---- one row, and then the others

module _ (machine : List SectionRows) (rs : List written.Row) (t : TextView) (i : ℕ) (d : written.Row)
    (within : i < length rs) where
  abbrev here : Row
  here = row_view (get_or rs i d)

  abbrev found : List Part → Bool
  found = list_any (lacks_part machine)

  abbrev later : TextView → List Part
  later u = parts_from machine u (row_list_view (drop (i + 1) rs))

  here_or_later : found (parts_from machine t (row_list_view (drop i rs)))
      ≡ (found (parts_at machine t here) || found (later (text_after here t)))
  here_or_later =
      ap (λ xs. found (parts_from machine t (row_list_view xs))) (drop_more rs i d within)
      ∙ list_any-append (lacks_part machine) (parts_at machine t here) (later (text_after here t))

  -- where this row lacks none, a name is lacking if one is after it; and one is, where this row lacks it
  pub lacks_next : (qs : List Part) (u : TextView) → qs ≡ parts_at machine t here → found qs ≡ false
      → u ≡ text_after here t
      → found (later u) ≡ found (parts_from machine t (row_list_view (drop i rs)))
  lacks_next qs u are none after =
      sym (here_or_later ∙ ap₂ (λ a v. a || found (later v)) (sym (ap found are) ∙ none) (sym after))

  pub lacks_here : (qs : List Part) → qs ≡ parts_at machine t here → found qs ≡ true
      → true ≡ found (parts_from machine t (row_list_view (drop i rs)))
  lacks_here qs are some = sym (here_or_later
      ∙ ap (λ a. a || found (later (text_after here t))) (sym (ap found are) ∙ some))

-- ---- what a row holds

module _ (machine : List SectionRows) (r : held.RowParts) where
  -- a device names the switches to which it listens, and the coils of its lists
  pub lacks_device : (s : Settings) → r.head ≡ kinds.Device s → list_any (lacks_part machine) (head_parts r)
      ≡ (list_any (lacks machine Switches) (bytes_view r.listens.items)
      || list_any (lacks_coil machine) (flat_map (λ es. es) r.lists))
  lacks_device s is =
      ap (λ (h : heads.RowHead). list_any (lacks_part machine) (parts_by r h)) is
      ∙ or_none (list_any (lacks machine Switches) (bytes_view r.listens.items)
      || list_any (list_any (lacks_coil machine)) r.lists)
      ∙ ap (λ b. list_any (lacks machine Switches) (bytes_view r.listens.items) || b)
      (sym (any_flat (lacks_coil machine) (λ es. es) r.lists))

  -- any other row names nothing that has to be given
  controls_lack : (whose : Whose) (m : ModeId) (cs : List (Event × ModeControl))
      → list_any (lacks_part machine) (control_parts whose m cs) ≡ false
  controls_lack whose m [] = refl
  controls_lack whose m ((e, Start) ∷ cs) = controls_lack whose m cs
  controls_lack whose m ((e, Stop) ∷ cs) = controls_lack whose m cs

  seats_lack : (whose : Whose) (row : RowId) (hs : List (Event × Act))
      → list_any (lacks_part machine) (map (λ h. handler whose h.0 (act_on row h.1)) hs) ≡ false
  seats_lack whose row [] = refl
  seats_lack whose row (h ∷ hs) = seats_lack whose row hs

  pub lacks_nothing : ((s : Settings) → r.head ≡ kinds.Device s → ⊥)
      → ((e : HandledName) → r.head ≡ kinds.Handler e → ⊥)
      → list_any (lacks_part machine) (head_parts r) ≡ false
  lacks_nothing = by r.head
    where
      by : (h : heads.RowHead) → ((s : Settings) → h ≡ kinds.Device s → ⊥)
          → ((e : HandledName) → h ≡ kinds.Handler e → ⊥)
          → list_any (lacks_part machine) (parts_by r h) ≡ false
      by (kinds.Device s) is_not other = absurd (is_not s refl)
      by (kinds.Handler e) is_not other = absurd (other e refl)
      by (kinds.Mode m name settings) is_not other =
          controls_lack (whose_view r.whose) m (controls_view r.controls.items)
      by (kinds.Seat row) is_not other = seats_lack (whose_view r.whose) (record { 0 = row })
          (acts_view r.event_acts.items)
      by _ is_not other = refl
