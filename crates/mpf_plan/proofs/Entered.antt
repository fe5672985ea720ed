-- A switch that is entered under its name, and a coil; the switch of a shot; and something unknown.
use Rattle.std.proofs.Common.{rules, ◌≡◌, ℕ, ◌+◌, ◌<◌, ◌≤◌, Bool, List, [], ◌∷◌, ◌++◌, length, map, set, get_or, Vec}
use Rattle.std.proofs.Common.{Global, refl, sym, ap, ap₂, ◌∙◌, subst, append-nil, append_assoc, arith}
use Rattle.std.proofs.lemmas.List.{length-map, map-append, map-id}
use Rattle.plan_tables.specs.declared.table.Table.{Table, TheVariants.{Events, Switches, Coils}}
use Rattle.plan_tables.specs.declared.entries.{EventId.EventId, SwitchEntry.SwitchEntry, ListId.ListId}
use Rattle.plan_tables.specs.declared.{entries.{SwitchKind.SwitchKind, CoilLimits.CoilLimits}, devices.RowId.RowId}
use Rattle.plan_tables.specs.PlanView.{PlanSwitch, no_switch, PlanCoil, no_coil}
use Rattle.plan_tables.specs.PlanFields.{action_lists, coils_view, mode_entry_view, switches_view}
use Rattle.plan_parts.specs.Parts.{Part, switch, coil, mention, unknown}
use Rattle.mpf_plan.specs.{declared.draft.Draft.Draft, PlanOf.{Use, uses_of, part_uses, in_table}}
use Rattle.mpf_plan.specs.declared.names.Names as held_names
use Rattle.mpf_plan.specs.{Uses.{Names, number_among}, ByNumber.event_of}
use Rattle.mpf_plan.specs.Drafting.{kept_names, names_by, AreNamesOf, AreWithin, HasOneEach, Notes, NotesSwitch, Adds}
use Rattle.mpf_plan.specs.Drafting.{NotesCoil, IsNumbered, named_switch, named_coil, new_names, entered_as, with_limits}
use Rattle.mpf_plan.proofs.{Numbered.{numbers_stay, events_stay}, Called.{with_part, coil_with}}
use Rattle.mpf_plan.proofs.Noted.{kept_all, notes_none, notes_more, within_after, within_before}
use Rattle.mpf_plan.proofs.{Named.within_front, Apart.where_named, Bound.{still_coils, no_more_switches, no_more_coils}}
use Rattle.mpf_plan.proofs.Slots.{switch_names, coil_names, slot_within, slot_changed}
use Rattle.mpf_plan.proofs.Grown.{switches_in, coils_in, GainsPart, Grows, adds_one}
use Rattle.mpf_plan.proofs.Bound.{none-append, events_no_switches, events_no_coils, kept_same, still_switches}

-- Nothing changes but switches, coils and names.
pub record KeepsRest (old new : Draft) : Type 0 where
  pub modes : new.modes ≡ old.modes
  pub game : new.game ≡ old.game
  pub lists : new.lists ≡ old.lists
  pub bindings : new.bindings ≡ old.bindings
  pub rows : new.rows ≡ old.rows
  pub row_lists : new.row_lists ≡ old.row_lists

-- ---- the switch of a shot

module _ (a b : Draft) (name : List ℕ) (noted : NotesSwitch a.names b.names a.switches b.switches name)
    (coils : b.coils ≡ a.coils) (keeps : KeepsRest a b) where
  abbrev other_mentions : Part
  other_mentions = mention Switches name

  mention_grows : Grows a b other_mentions
  mention_grows = record {
    names = noted.names;
    has_switches = noted.count;
    has_coils = λ us are within has. still_coils us (part_uses other_mentions) a b are noted.names within refl coils
        has;
    count_bindings = ap (λ v. length v.items) keeps.bindings ∙ omega arith;
    count_rows = ap (λ v. length v.items) keeps.rows ∙ omega arith;
    count_lists = ap (λ v. length v.items) keeps.lists ∙ omega arith;
    tables = λ us are within hass hasc kept few_rows few_lists. record {
      modes = ap (λ v. map mode_entry_view v.items) keeps.modes ∙ sym (append-nil (map mode_entry_view a.modes.items));
      switches = noted.entries us are within hass
          ∙ sym (map-id (switches_in a ++ map named_switch
          (new_names (kept_names a.names Switches) (kept_names b.names Switches))));
      coils = no_more_coils us (part_uses other_mentions) a b are noted.names within refl coils;
      lists = ap (λ v. action_lists v.items) keeps.lists ∙ sym (append-nil (action_lists a.lists.items));
      bindings = ap (λ v. v.items) keeps.bindings ∙ sym (append-nil a.bindings.items);
      rows = ap (λ v. v.items) keeps.rows ∙ sym (append-nil a.rows.items);
      row_lists = ap (λ v. v.items) keeps.row_lists ∙ sym (append-nil a.row_lists.items);
      game = keeps.game;
    };
  }

  pub adds_mention : Adds a b (other_mentions ∷ [])
  adds_mention = adds_one a b other_mentions mention_grows

-- ---- something that nothing has

pub adds_unknown : (a : Draft) → Adds a a (unknown ∷ [])
adds_unknown a = adds_one a a unknown (record {
  names = notes_none a.names;
  has_switches = λ us are within has. has;
  has_coils = λ us are within has. has;
  count_bindings = omega arith;
  count_rows = omega arith;
  count_lists = omega arith;
  tables = λ us are within hass hasc kept few_rows few_lists. record {
    modes = sym (append-nil (map mode_entry_view a.modes.items));
    switches = no_more_switches us [] a a are (notes_none a.names) within refl refl;
    coils = no_more_coils us [] a a are (notes_none a.names) within refl refl;
    lists = sym (append-nil (action_lists a.lists.items));
    bindings = sym (append-nil a.bindings.items);
    rows = sym (append-nil a.rows.items);
    row_lists = sym (append-nil a.row_lists.items);
    game = refl;
  };
})

-- ---- a coil

module _ (a b : Draft) (mid : Vec CoilLimits Global) (number : ℕ) (name : List ℕ) (limits : CoilLimits)
    (noted : NotesCoil a.names b.names a.coils mid name)
    (numbered : IsNumbered a.names ((Coils, name) ∷ []) (λ ns. number_among (ns Coils) name) number)
    (count : length b.coils.items ≡ length mid.items)
    (entered : number < length mid.items → (ns : List (List ℕ))
    → coils_view ns b.coils.items ≡ set (coils_view ns mid.items) number
    (with_limits limits (get_or (coils_view ns mid.items) number no_coil)))
    (switches : b.switches ≡ a.switches) (keeps : KeepsRest a b) where
  abbrev cp : Part
  cp = coil name limits

  module _ (us : List Use) (are : AreNamesOf us a.names) (within : AreWithin (us ++ (Coils, name) ∷ []))
      (has : HasOneEach Coils a.names a.coils) where
    abbrev kb : List (List ℕ)
    kb = kept_names b.names Coils

    each : length mid.items ≡ length kb
    each = noted.count us are within has

    coil_has : HasOneEach Coils b.names b.coils
    coil_has = count ∙ each

    its : map (λ c. c.name) (coils_view kb mid.items) ≡ names_by (us ++ (Coils, name) ∷ []) Coils
    its = coil_names kb mid.items each ∙ kept_all (us ++ (Coils, name) ∷ []) b.names Coils (noted.names us are)
        (within Coils tt)

    coils_entered : coils_in b ≡ map (coil_with cp)
        (coils_in a ++ map named_coil (new_names (kept_names a.names Coils) kb))
    coils_entered =
        let inside = slot_within (λ c. c.name) no_coil Coils us name (coils_view kb mid.items) number its
        (numbered us are within) in
        let long = ap length (coil_names kb mid.items each) in
        entered (omega (arith, inside, each, long, length-map (coils_view kb mid.items) (λ (c : PlanCoil). c.name))) kb
        ∙ slot_changed (λ c. c.name) no_coil Coils us name (coils_view kb mid.items) number its (numbered us are within)
        (with_limits limits)
        ∙ ap (map (coil_with cp)) (noted.entries us are within has)

  coil_grows : Grows a b cp
  coil_grows = record {
    names = noted.names;
    has_switches = λ us are within has. still_switches us (part_uses cp) a b are noted.names within refl switches has;
    has_coils = coil_has;
    count_bindings = ap (λ v. length v.items) keeps.bindings ∙ omega arith;
    count_rows = ap (λ v. length v.items) keeps.rows ∙ omega arith;
    count_lists = ap (λ v. length v.items) keeps.lists ∙ omega arith;
    tables = λ us are within hass hasc kept few_rows few_lists. record {
      modes = ap (λ v. map mode_entry_view v.items) keeps.modes ∙ sym (append-nil (map mode_entry_view a.modes.items));
      switches = no_more_switches us (part_uses cp) a b are noted.names within refl switches;
      coils = coils_entered us are within hasc;
      lists = ap (λ v. action_lists v.items) keeps.lists ∙ sym (append-nil (action_lists a.lists.items));
      bindings = ap (λ v. v.items) keeps.bindings ∙ sym (append-nil a.bindings.items);
      rows = ap (λ v. v.items) keeps.rows ∙ sym (append-nil a.rows.items);
      row_lists = ap (λ v. v.items) keeps.row_lists ∙ sym (append-nil a.row_lists.items);
      game = keeps.game;
    };
  }

  pub adds_coil : Adds a b (cp ∷ [])
  adds_coil = adds_one a b cp coil_grows

-- ---- a switch

module _ (a b : Draft) (n1 n2 : held_names.Names) (mid : Vec SwitchEntry Global) (number : ℕ) (name : List ℕ)
    (kind : SwitchKind) (confirms : Bool) (active inactive : List (List ℕ)) (on off : List EventId)
    (noted : NotesSwitch a.names n1 a.switches mid name)
    (numbered : IsNumbered a.names ((Switches, name) ∷ []) (λ ns. number_among (ns Switches) name) number)
    (notes_on : Notes n1 n2 (uses_of Events active))
    (on_is : IsNumbered n1 (uses_of Events active) (λ ns. map (event_of (ns Events)) active) on)
    (notes_off : Notes n2 b.names (uses_of Events inactive))
    (off_is : IsNumbered n2 (uses_of Events inactive) (λ ns. map (event_of (ns Events)) inactive) off)
    (count : length b.switches.items ≡ length mid.items)
    (entered : number < length mid.items → (ns : List (List ℕ)) → switches_view ns b.switches.items
    ≡ set (switches_view ns mid.items) number
    (entered_as kind confirms on off (get_or (switches_view ns mid.items) number no_switch)))
    (coils : b.coils ≡ a.coils) (keeps : KeepsRest a b) where
  abbrev sp : Part
  sp = switch name kind confirms active inactive

  abbrev V : List Use
  V = (Switches, name) ∷ []

  abbrev X : List Use
  X = uses_of Events active

  abbrev Y : List Use
  Y = uses_of Events inactive

  uses : part_uses sp ≡ (V ++ X) ++ Y
  uses = append-nil ((Switches, name) ∷ uses_of Events (active ++ inactive))
      ∙ ap (λ us. (Switches, name) ∷ us) (map-append (λ n. (Events, n)) active inactive)

  notes : Notes a.names b.names (part_uses sp)
  notes = subst (Notes a.names b.names) (sym uses)
      (notes_more a.names n2 b.names (V ++ X) Y (notes_more a.names n1 n2 V X noted.names notes_on) notes_off)

  notes_after : Notes n1 b.names (X ++ Y)
  notes_after = notes_more n1 n2 b.names X Y notes_on notes_off

  after_none : in_table Switches (X ++ Y) ≡ []
  after_none = none-append Switches X Y (events_no_switches active) (events_no_switches inactive)

  coilless : in_table Coils (part_uses sp) ≡ []
  coilless = ap (in_table Coils) uses ∙ none-append Coils X Y (events_no_coils active) (events_no_coils inactive)

  module _ (us : List Use) (are : AreNamesOf us a.names) (within : AreWithin (us ++ part_uses sp))
      (has : HasOneEach Switches a.names a.switches) where
    -- all uses, in their groups
    all : ((us ++ V) ++ X) ++ Y ≡ us ++ part_uses sp
    all = append_assoc (us ++ V) X Y ∙ append_assoc us V (X ++ Y) ∙ ap (λ vs. us ++ vs) (sym uses)

    fits : AreWithin (((us ++ V) ++ X) ++ Y)
    fits = subst AreWithin (sym all) within

    fits_on : AreWithin ((us ++ V) ++ X)
    fits_on = within_front ((us ++ V) ++ X) Y fits

    fits_noted : AreWithin (us ++ V)
    fits_noted = within_front (us ++ V) X fits_on

    fits_after : AreWithin ((us ++ V) ++ (X ++ Y))
    fits_after = subst AreWithin (append_assoc (us ++ V) X Y) fits

    are_noted : AreNamesOf (us ++ V) n1
    are_noted = noted.names us are

    abbrev k1 : List (List ℕ)
    k1 = kept_names n1 Switches

    abbrev kbs : List (List ℕ)
    kbs = kept_names b.names Switches

    same : kbs ≡ k1
    same = kept_same (us ++ V) (X ++ Y) n1 b.names Switches tt are_noted notes_after fits_after after_none

    each_switch : length mid.items ≡ length k1
    each_switch = noted.count us are fits_noted has

    switch_has : HasOneEach Switches b.names b.switches
    switch_has = count ∙ each_switch ∙ ap length (sym same)

    its_names : map (λ s. s.name) (switches_view k1 mid.items) ≡ names_by (us ++ V) Switches
    its_names = switch_names k1 mid.items each_switch
        ∙ kept_all (us ++ V) n1 Switches are_noted (fits_noted Switches tt)

    on_numbered : on ≡ map (event_of (names_by (us ++ part_uses sp) Events)) active
    on_numbered =
        on_is (us ++ V) are_noted fits_on
        ∙ events_stay active (names_by ((us ++ V) ++ X)) (names_by (((us ++ V) ++ X) ++ Y)) (numbers_stay (us ++ V) X Y)
        ∙ ap (λ vs. map (event_of (names_by vs Events)) active) all

    off_numbered : off ≡ map (event_of (names_by (us ++ part_uses sp) Events)) inactive
    off_numbered = off_is ((us ++ V) ++ X) (notes_on (us ++ V) are_noted) fits
        ∙ ap (λ vs. map (event_of (names_by vs Events)) inactive) all

    switches_entered : (row : RowId) → switches_in b
        ≡ map (with_part (names_by (us ++ part_uses sp)) row sp)
        (switches_in a ++ map named_switch (new_names (kept_names a.names Switches) kbs))
    switches_entered row =
        let inside = slot_within (λ s. s.name) no_switch Switches us name (switches_view k1 mid.items) number its_names
        (numbered us are fits_noted) in
        let long = ap length (switch_names k1 mid.items each_switch) in
        let named = λ (x y : List EventId) (ss : List PlanSwitch). map
        (where_named (λ s. s.name) no_switch (entered_as kind confirms x y) name) ss in
        ap (λ ns. switches_view ns b.switches.items) same
        ∙ entered
        (omega
        (arith, inside, each_switch, long, length-map (switches_view k1 mid.items) (λ (s : PlanSwitch). s.name))) k1
        ∙ slot_changed (λ s. s.name) no_switch Switches us name (switches_view k1 mid.items) number its_names
        (numbered us are fits_noted) (entered_as kind confirms on off)
        ∙ ap (named on off) (noted.entries us are fits_noted has
        ∙ ap (λ ns. switches_in a ++ map named_switch (new_names (kept_names a.names Switches) ns)) (sym same))
        ∙ ap₂ (λ x y. named x y (switches_in a ++ map named_switch (new_names (kept_names a.names Switches) kbs)))
        on_numbered off_numbered

  switch_grows : Grows a b sp
  switch_grows = record {
    names = notes;
    has_switches = switch_has;
    has_coils = λ us are within has. still_coils us (part_uses sp) a b are notes within coilless coils has;
    count_bindings = ap (λ v. length v.items) keeps.bindings ∙ omega arith;
    count_rows = ap (λ v. length v.items) keeps.rows ∙ omega arith;
    count_lists = ap (λ v. length v.items) keeps.lists ∙ omega arith;
    tables = λ us are within hass hasc kept few_rows few_lists. record {
      modes = ap (λ v. map mode_entry_view v.items) keeps.modes ∙ sym (append-nil (map mode_entry_view a.modes.items));
      switches = switches_entered us are within hass (record { 0 = length a.rows.items });
      coils = no_more_coils us (part_uses sp) a b are notes within coilless coils;
      lists = ap (λ v. action_lists v.items) keeps.lists ∙ sym (append-nil (action_lists a.lists.items));
      bindings = ap (λ v. v.items) keeps.bindings ∙ sym (append-nil a.bindings.items);
      rows = ap (λ v. v.items) keeps.rows ∙ sym (append-nil a.rows.items);
      row_lists = ap (λ v. v.items) keeps.row_lists ∙ sym (append-nil a.row_lists.items);
      game = keeps.game;
    };
  }

  pub adds_switch : Adds a b (sp ∷ [])
  adds_switch = adds_one a b sp switch_grows
