-- A device: its row, the switches to which it listens, what it handles, other events that it names, and its effect
-- lists.
use Rattle.std.proofs.Common.{rules, ◌≡◌, ℕ, ◌+◌, ◌≤◌, List, [], ◌∷◌, ◌++◌, length, map, refl, sym, ap, ap₂, ◌∙◌, subst}
use Rattle.std.proofs.{Common.{append-nil, append_assoc, arith}, lemmas.List.{length_push, length-map}}
use Rattle.std.specs.List.{flat_map}
use Rattle.plan_tables.specs.declared.table.Table.{Table, TheVariants.{Events, Switches, Coils}}
use Rattle.plan_tables.specs.declared.{entries.ListId.ListId, devices.{DeviceRow.DeviceRow, RowId.RowId}}
use Rattle.plan_tables.specs.declared.entries.Target.TheVariants as targets
use Rattle.plan_tables.specs.PlanFields.{action_lists, mode_entry_view, switches_view}
use Rattle.plan_parts.specs.{Effects.Effect, Devices.Device, Parts.{Part, Whose, device}}
use Rattle.mpf_plan.specs.{declared.draft.Draft.Draft, ByNumber.action_of, Drafting.AddsLists}
use Rattle.mpf_plan.specs.PlanOf.{Use, uses_of, event_uses, part_uses, in_table, binding_of}
use Rattle.mpf_plan.specs.Drafting.{kept_names, names_by, AreNamesOf, AreWithin, Notes, NotesCoils, HasOneEach, Adds}
use Rattle.mpf_plan.specs.Drafting.{named_switch, named_coil, new_names, with_listeners, AddsListeners, AddsActs}
use Rattle.mpf_plan.proofs.{Numbered.{numbers_stay, handled_stay}, Named.within_front, Bound.same_switches}
use Rattle.mpf_plan.proofs.{Listed.{lists_uses, noted_coils}, Entries.{coils_stay, coils_more}}
use Rattle.mpf_plan.proofs.Noted.{notes_more, within_after, within_before}
use Rattle.mpf_plan.proofs.Grown.{switches_in, coils_in, GainsPart, Grows, adds_one}
use Rattle.mpf_plan.proofs.Bound.{none-append, none_each, event_no_switches, event_no_coils, events_no_switches}
use Rattle.mpf_plan.proofs.Bound.{events_no_coils, switches_no_coils, lists_no_switches, kept_same, still_switches}

-- Here `start` is the draft with the row, which has all else from `a`; then come those that listen, what is handled,
-- other names,
-- and the lists.
module _ (a start b c d e : Draft) (whose : Whose) (dev : Device) (row : RowId) (list : ListId)
    (names_start : start.names ≡ a.names) (modes_start : start.modes ≡ a.modes) (game_start : start.game ≡ a.game)
    (switches_start : start.switches ≡ a.switches) (coils_start : start.coils ≡ a.coils)
    (lists_start : start.lists ≡ a.lists) (bindings_start : start.bindings ≡ a.bindings)
    (rows_start : start.rows.items ≡ a.rows.items
    ++ record { number = row; owner = whose.owner; settings = dev.settings } ∷ [])
    (row_lists_start : start.row_lists.items ≡ a.row_lists.items ++ list ∷ [])
    (hears : AddsListeners start b row dev.listens) (acts : AddsActs b c whose row dev.event_acts)
    (mentions : Notes c.names d.names (uses_of Events dev.other_mentions))
    (modes_d : d.modes ≡ c.modes) (game_d : d.game ≡ c.game) (switches_d : d.switches ≡ c.switches)
    (coils_d : d.coils ≡ c.coils)
    (lists_d : d.lists ≡ c.lists) (bindings_d : d.bindings ≡ c.bindings) (rows_d : d.rows ≡ c.rows)
    (row_lists_d : d.row_lists ≡ c.row_lists)
    (does : AddsLists d e row dev.lists)
    (row_is : length a.rows.items ≤ 65535 → row ≡ record { 0 = length a.rows.items })
    (list_is : length a.lists.items ≤ 4294967295 → list ≡ record { 0 = length a.lists.items }) where
  abbrev p : Part
  p = device whose dev

  abbrev A : List Use
  A = uses_of Switches dev.listens

  abbrev B : List Use
  B = flat_map (λ h. event_uses h.0) dev.event_acts

  abbrev C : List Use
  C = uses_of Events dev.other_mentions

  abbrev D : List Use
  D = lists_uses dev.lists

  abbrev rest : List Use
  rest = (B ++ C) ++ D

  -- the uses, and those after the switches
  regroup : ((A ++ B) ++ C) ++ D ≡ A ++ rest
  regroup = ap (λ x. x ++ D) (append_assoc A B C) ∙ append_assoc A (B ++ C) D

  b_switchless : in_table Switches B ≡ []
  b_switchless = none_each Switches (λ h. event_uses h.0) (λ h. event_no_switches h.0) dev.event_acts

  b_coilless : in_table Coils B ≡ []
  b_coilless = none_each Coils (λ h. event_uses h.0) (λ h. event_no_coils h.0) dev.event_acts

  no_switches : in_table Switches rest ≡ []
  no_switches = none-append Switches (B ++ C) D
      (none-append Switches B C b_switchless (events_no_switches dev.other_mentions)) (lists_no_switches dev.lists)

  no_coils : in_table Coils ((A ++ B) ++ C) ≡ []
  no_coils = none-append Coils (A ++ B) C (none-append Coils A B (switches_no_coils dev.listens) b_coilless)
      (events_no_coils dev.other_mentions)

  notes_b : Notes a.names b.names A
  notes_b = subst (λ n. Notes n b.names A) names_start hears.keeps.names

  notes_d : Notes a.names d.names ((A ++ B) ++ C)
  notes_d = notes_more a.names c.names d.names (A ++ B) C
      (notes_more a.names b.names c.names A B notes_b acts.keeps.names) mentions

  notes_rest : Notes b.names e.names rest
  notes_rest = notes_more b.names d.names e.names (B ++ C) D
      (notes_more b.names c.names d.names B C acts.keeps.names mentions) does.keeps.names

  notes : Notes a.names e.names (((A ++ B) ++ C) ++ D)
  notes = notes_more a.names d.names e.names ((A ++ B) ++ C) D notes_d does.keeps.names

  -- switches: those after them name none
  switches_e : e.switches ≡ b.switches
  switches_e = does.switches ∙ switches_d ∙ acts.switches

  module _ (us : List Use) (are : AreNamesOf us a.names) (within : AreWithin (us ++ (((A ++ B) ++ C) ++ D))) where
    fits : AreWithin (us ++ (A ++ rest))
    fits = subst (λ vs. AreWithin (us ++ vs)) regroup within

    front : AreWithin (us ++ A)
    front = within_before us A rest fits

    behind : AreWithin ((us ++ A) ++ rest)
    behind = within_after us A rest fits

    are_start : AreNamesOf us start.names
    are_start = subst (AreNamesOf us) (sym names_start) are

    are_b : AreNamesOf (us ++ A) b.names
    are_b = notes_b us are

    has_start : HasOneEach Switches a.names a.switches → HasOneEach Switches start.names start.switches
    has_start has = ap (λ v. length v.items) switches_start ∙ has
        ∙ ap (λ n. length (kept_names n Switches)) (sym names_start)

    has_switches : HasOneEach Switches a.names a.switches → HasOneEach Switches e.names e.switches
    has_switches has = still_switches (us ++ A) rest b e are_b notes_rest behind no_switches switches_e
        (hears.count us are_start front (has_start has))

    switches_gained : HasOneEach Switches a.names a.switches
        → switches_in e ≡ map (with_listeners row dev.listens)
        (switches_in a ++ map named_switch (new_names (kept_names a.names Switches) (kept_names e.names Switches)))
    switches_gained has =
        same_switches (us ++ A) rest b e are_b notes_rest behind no_switches switches_e
        ∙ hears.listeners us are_start front (has_start has)
        ∙ ap₂ (λ n v. map (with_listeners row dev.listens)
        (switches_view (kept_names n Switches) v.items
        ++ map named_switch (new_names (kept_names n Switches) (kept_names b.names Switches)))) names_start
        switches_start
        ∙ ap (λ ns. map (with_listeners row dev.listens)
        (switches_in a ++ map named_switch (new_names (kept_names a.names Switches) ns)))
        (sym (kept_same (us ++ A) rest b.names e.names Switches tt are_b notes_rest behind no_switches))

  -- coils: those before the lists name none
  coils_b : d.coils ≡ a.coils
  coils_b = coils_d ∙ acts.coils ∙ hears.coils ∙ coils_start

  noted : NotesCoils a.names e.names a.coils e.coils (((A ++ B) ++ C) ++ D)
  noted =
      coils_more a.names d.names e.names a.coils a.coils e.coils ((A ++ B) ++ C) D
      (coils_stay a.names d.names a.coils ((A ++ B) ++ C) no_coils notes_d)
      (subst (λ v. NotesCoils d.names e.names v e.coils D) coils_b does.coils)

  gains : (us : List Use) → AreNamesOf us a.names → AreWithin (us ++ (((A ++ B) ++ C) ++ D))
      → HasOneEach Switches a.names a.switches → HasOneEach Coils a.names a.coils
      → length a.rows.items ≤ 65535 → length a.lists.items ≤ 4294967295
      → GainsPart a e p (names_by (us ++ (((A ++ B) ++ C) ++ D))) (record { 0 = length a.rows.items })
      (record { 0 = length a.lists.items })
  gains us are within hass hasc few_rows few_lists =
      let all = ((A ++ B) ++ C) ++ D in
      let own : row ≡ record { 0 = length a.rows.items } = row_is few_rows in
      let first : list ≡ record { 0 = length a.lists.items } = list_is few_lists in
      let ab : ((us ++ A) ++ B) ++ (C ++ D) ≡ us ++ all =
      append_assoc (us ++ A) B (C ++ D) ∙ append_assoc us A (B ++ (C ++ D))
      ∙ ap (λ x. us ++ x) (ap (λ x. A ++ x) (sym (append_assoc B C D)) ∙ sym regroup) in
      let ab_fits : AreWithin ((us ++ A) ++ B) =
      within_front ((us ++ A) ++ B) (C ++ D) (subst AreWithin (sym ab) within) in
      record {
        modes = ap (λ v. map mode_entry_view v.items)
            (does.keeps.modes ∙ modes_d ∙ acts.keeps.modes ∙ hears.keeps.modes ∙ modes_start)
            ∙ sym (append-nil (map mode_entry_view a.modes.items));
        switches = switches_gained us are within hass
            ∙ ap (λ r. map (with_listeners r dev.listens)
            (switches_in a ++ map named_switch
            (new_names (kept_names a.names Switches) (kept_names e.names Switches)))) own;
        coils = noted_coils a e all noted us are within hasc;
        lists = does.lists (us ++ ((A ++ B) ++ C)) (notes_d us are) (within_after us ((A ++ B) ++ C) D within)
            ∙ ap₂ (λ v vs. action_lists v.items ++ map (map (action_of (names_by vs) row)) dev.lists)
            (lists_d ∙ acts.lists ∙ hears.lists ∙ lists_start) (append_assoc us ((A ++ B) ++ C) D)
            ∙ ap (λ r. action_lists a.lists.items ++ map (map (action_of (names_by (us ++ all)) r)) dev.lists) own;
        bindings = ap (λ v. v.items) (does.bindings ∙ bindings_d)
            ∙ acts.bindings (us ++ A) (notes_b us are) ab_fits
            ∙ ap₂ (λ v bs. v.items ++ bs) (hears.bindings ∙ bindings_start)
            (handled_stay whose row dev.event_acts (names_by ((us ++ A) ++ B)) (names_by (((us ++ A) ++ B) ++ (C ++ D)))
            (numbers_stay (us ++ A) B (C ++ D)))
            ∙ ap₂ (λ vs r. a.bindings.items
            ++ map (λ h. binding_of (names_by vs) whose h.0 (targets.Act r h.1)) dev.event_acts) ab own;
        rows = ap (λ v. v.items) (does.rows ∙ rows_d ∙ acts.rows ∙ hears.rows) ∙ rows_start
            ∙ ap (λ r. a.rows.items ++ record { number = r; owner = whose.owner; settings = dev.settings } ∷ []) own;
        row_lists = ap (λ v. v.items) (does.row_lists ∙ row_lists_d ∙ acts.row_lists ∙ hears.row_lists)
            ∙ row_lists_start ∙ ap (λ l. a.row_lists.items ++ l ∷ []) first;
        game = does.keeps.game ∙ game_d ∙ acts.keeps.game ∙ hears.keeps.game ∙ game_start;
      }

  device_grows : Grows a e p
  device_grows = record {
    names = notes;
    has_switches = has_switches;
    has_coils = noted.count;
    count_bindings = ap (λ v. length v.items) (does.bindings ∙ bindings_d) ∙ acts.count (names_by [])
        ∙ ap₂ (λ v n. length v.items + n) (hears.bindings ∙ bindings_start)
        (length-map dev.event_acts (λ h. binding_of (names_by []) whose h.0 (targets.Act row h.1)));
    count_rows = ap (λ v. length v.items) (does.rows ∙ rows_d ∙ acts.rows ∙ hears.rows) ∙ ap length rows_start
        ∙ length_push a.rows.items (record { number = row; owner = whose.owner; settings = dev.settings });
    count_lists = does.count ∙ ap (λ v. length v.items + length dev.lists)
        (lists_d ∙ acts.lists ∙ hears.lists ∙ lists_start);
    tables = λ us are within hass hasc kept few_rows few_lists. gains us are within hass hasc few_rows few_lists;
  }

  pub adds_device : Adds a e (p ∷ [])
  adds_device = adds_one a e p device_grows
