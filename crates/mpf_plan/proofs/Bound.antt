-- Parts that are one binding: handlers.
use Rattle.std.proofs.Common.{rules, ◌≡◌, ℕ, ◌+◌, ◌≤◌, List, [], ◌∷◌, ◌++◌, length, map, refl, sym, ap, ap₂, ◌∙◌, subst}
use Rattle.std.proofs.Common.{append-nil, append_assoc, length-append, arith, Option, None, Some}
use Rattle.std.{specs.List.{All, flat_map}, proofs.{Math.Seq.drop-length, lemmas.List.{map-id, length-map, map-append}}}
use Rattle.mpf_values.specs.Events.{EventCondition, Event}
use Rattle.plan_tables.specs.declared.table.Table.{Table, TheVariants.{Events, Switches, Coils, Variables}}
use Rattle.plan_tables.specs.declared.entries.{Binding.Binding, ListId.ListId, Target.Target, ModeId.ModeId}
use Rattle.plan_tables.specs.{declared.devices.{RowId.RowId, Act.Act}, PlanView.{PlanSwitch, PlanCoil}}
use Rattle.plan_tables.specs.declared.entries.Target.TheVariants as targets
use Rattle.plan_tables.specs.PlanFields.{action_lists, coils_view, mode_entry_view, switches_view}
use Rattle.plan_parts.specs.Effects.{Effect, posts, works, changes, enters, leaves, loses, arrives, requests}
use Rattle.plan_parts.specs.{Effects.adds_balls, Parts.{Part, Whose, Reaction, handler, run}}
use Rattle.mpf_plan.specs.{declared.draft.Draft.Draft, Uses.Names, ByNumber.action_of}
use Rattle.mpf_plan.specs.declared.names.Names as held_names
use Rattle.mpf_plan.specs.PlanOf.{Use, uses_of, condition_uses, event_uses, effect_uses, part_uses, in_table, lists_in}
use Rattle.mpf_plan.specs.PlanOf.{target_of, binding_of, bindings_in, actions_in}
use Rattle.mpf_plan.specs.Drafting.{kept_names, names_by, AreNamesOf, AreWithin, HasNames, Notes, IfWithin, HasOneEach}
use Rattle.mpf_plan.specs.Drafting.{named_switch, named_coil, new_names, IsKept, AddsBinding, AddsLists, Adds}
use Rattle.mpf_plan.proofs.{Named.{in_table-append, none_noted, within_front}, Noted.{kept_all, notes_more}}
use Rattle.mpf_plan.proofs.Grown.{switches_in, coils_in, GainsPart, Grows, adds_one}

-- ---- uses of other tables

pub none-append : (t : Table) (us vs : List Use) → in_table t us ≡ [] → in_table t vs ≡ [] → in_table t (us ++ vs) ≡ []
none-append t us vs first then = in_table-append t us vs ∙ ap₂ (λ xs ys. xs ++ ys) first then

pub none_each : {X : Type 0} (t : Table) (uses : X → List Use) → ((x : X) → in_table t (uses x) ≡ []) → (xs : List X)
    → in_table t (flat_map uses xs) ≡ []
none_each t uses each [] = refl
none_each t uses each (x ∷ xs) = none-append t (uses x) (flat_map uses xs) (each x) (none_each t uses each xs)

-- events are neither switches nor coils
pub events_no_switches : (names : List (List ℕ)) → in_table Switches (uses_of Events names) ≡ []
events_no_switches [] = refl
events_no_switches (n ∷ names) = events_no_switches names

pub events_no_coils : (names : List (List ℕ)) → in_table Coils (uses_of Events names) ≡ []
events_no_coils [] = refl
events_no_coils (n ∷ names) = events_no_coils names

pub switches_no_coils : (names : List (List ℕ)) → in_table Coils (uses_of Switches names) ≡ []
switches_no_coils [] = refl
switches_no_coils (n ∷ names) = switches_no_coils names

pub event_no_switches : (e : Event) → in_table Switches (event_uses e) ≡ []
event_no_switches e = by e.condition
  where
    by : (o : Option EventCondition) → in_table Switches ((Events, e.name) ∷ condition_uses o) ≡ []
    by None = refl
    by (Some c) = refl

pub event_no_coils : (e : Event) → in_table Coils (event_uses e) ≡ []
event_no_coils e = by e.condition
  where
    by : (o : Option EventCondition) → in_table Coils ((Events, e.name) ∷ condition_uses o) ≡ []
    by None = refl
    by (Some c) = refl

-- effects name no switches
effect_no_switches : (e : Effect) → in_table Switches (effect_uses e) ≡ []
effect_no_switches (posts n) = refl
effect_no_switches (works n deed) = refl
effect_no_switches (changes v action n) = refl
effect_no_switches (enters n drain) = refl
effect_no_switches x1 = refl

pub lists_no_switches : (ls : List (List Effect)) → in_table Switches (flat_map (flat_map effect_uses) ls) ≡ []
lists_no_switches ls = none_each Switches (flat_map effect_uses) (none_each Switches effect_uses effect_no_switches) ls

-- ---- names that stay as they are

module _ (us vs : List Use) (old new : held_names.Names) (t : Table) (named : HasNames t) (are : AreNamesOf us old)
    (notes : Notes old new vs) (within : AreWithin (us ++ vs)) (none : in_table t vs ≡ []) where
  -- a table of which nothing is used
  pub kept_same : kept_names new t ≡ kept_names old t
  kept_same =
      kept_all (us ++ vs) new t (notes us are) (within t named)
      ∙ none_noted us vs t none
      ∙ sym (kept_all us old t are (within_front us vs within t named))

  pub none_new : new_names (kept_names old t) (kept_names new t) ≡ []
  none_new = ap (new_names (kept_names old t)) kept_same ∙ drop-length (kept_names old t)

-- no switch is named, and no coil: they are as they were
module _ (us vs : List Use) (a b : Draft) (are : AreNamesOf us a.names) (notes : Notes a.names b.names vs)
    (within : AreWithin (us ++ vs)) where
  pub still_switches : in_table Switches vs ≡ [] → b.switches ≡ a.switches → HasOneEach Switches a.names a.switches
      → HasOneEach Switches b.names b.switches
  still_switches none same has =
      ap (λ v. length v.items) same ∙ has ∙ ap length
      (sym (kept_same us vs a.names b.names Switches tt are notes within none))

  pub still_coils : in_table Coils vs ≡ [] → b.coils ≡ a.coils → HasOneEach Coils a.names a.coils
      → HasOneEach Coils b.names b.coils
  still_coils none same has =
      ap (λ v. length v.items) same ∙ has ∙ ap length
      (sym (kept_same us vs a.names b.names Coils tt are notes within none))

  pub same_switches : in_table Switches vs ≡ [] → b.switches ≡ a.switches → switches_in b ≡ switches_in a
  same_switches none same = ap₂ (λ ns v. switches_view ns v.items)
      (kept_same us vs a.names b.names Switches tt are notes within none) same

  pub same_coils : in_table Coils vs ≡ [] → b.coils ≡ a.coils → coils_in b ≡ coils_in a
  same_coils none same = ap₂ (λ ns v. coils_view ns v.items)
      (kept_same us vs a.names b.names Coils tt are notes within none) same

  -- with none that are new
  pub no_more_switches : in_table Switches vs ≡ [] → b.switches ≡ a.switches
      → switches_in b ≡ map (λ s. s) (switches_in a
      ++ map named_switch (new_names (kept_names a.names Switches) (kept_names b.names Switches)))
  no_more_switches none same =
      same_switches none same
      ∙ sym (map-id (switches_in a ++ map named_switch
      (new_names (kept_names a.names Switches) (kept_names b.names Switches)))
      ∙ ap (λ ns. switches_in a ++ map named_switch ns)
      (none_new us vs a.names b.names Switches tt are notes within none)
      ∙ append-nil (switches_in a))

  pub no_more_coils : in_table Coils vs ≡ [] → b.coils ≡ a.coils
      → coils_in b ≡ map (λ c. c) (coils_in a
      ++ map named_coil (new_names (kept_names a.names Coils) (kept_names b.names Coils)))
  no_more_coils none same =
      same_coils none same
      ∙ sym (map-id (coils_in a ++ map named_coil (new_names (kept_names a.names Coils) (kept_names b.names Coils)))
      ∙ ap (λ ns. coils_in a ++ map named_coil ns) (none_new us vs a.names b.names Coils tt are notes within none)
      ∙ append-nil (coils_in a))

-- ---- a handler that runs no list

module _ (a b : Draft) (whose : Whose) (e : Event) (reaction : Reaction) (target : Target)
    (adds : AddsBinding a b whose e target)
    (none : lists_in (handler whose e reaction) ≡ [])
    (aims : IsKept (handler whose e reaction) → (l : ListId) → target_of l reaction ≡ target) where
  abbrev p : Part
  p = handler whose e reaction

  uses : part_uses p ≡ event_uses e
  uses = ap (λ ls. event_uses e ++ flat_map (flat_map effect_uses) ls) none ∙ append-nil (event_uses e)

  no_switches : in_table Switches (part_uses p) ≡ []
  no_switches = ap (in_table Switches) uses ∙ event_no_switches e

  no_coils : in_table Coils (part_uses p) ≡ []
  no_coils = ap (in_table Coils) uses ∙ event_no_coils e

  notes : Notes a.names b.names (part_uses p)
  notes = subst (Notes a.names b.names) (sym uses) adds.keeps.names

  gains : (us : List Use) → AreNamesOf us a.names → AreWithin (us ++ part_uses p) → IsKept p
      → (row : RowId) (list : ListId)
      → GainsPart a b p (names_by (us ++ part_uses p)) row list
  gains us are within kept row list = record {
    modes = ap (λ v. map mode_entry_view v.items) adds.keeps.modes
        ∙ sym (append-nil (map mode_entry_view a.modes.items));
    switches = no_more_switches us (part_uses p) a b are notes within no_switches adds.switches;
    coils = no_more_coils us (part_uses p) a b are notes within no_coils adds.coils;
    lists = ap (λ v. action_lists v.items) adds.lists
        ∙ sym (ap (λ ls. action_lists a.lists.items ++ map (map (action_of (names_by (us ++ part_uses p)) row)) ls) none
        ∙ append-nil (action_lists a.lists.items));
    bindings = adds.bindings us are (subst (λ vs. AreWithin (us ++ vs)) uses within)
        ∙ ap₂ (λ vs t. a.bindings.items ++ binding_of (names_by (us ++ vs)) whose e t ∷ []) (sym uses)
        (sym (aims kept list));
    rows = ap (λ v. v.items) adds.rows ∙ sym (append-nil a.rows.items);
    row_lists = ap (λ v. v.items) adds.row_lists ∙ sym (append-nil a.row_lists.items);
    game = adds.keeps.game;
  }

  pub bound_grows : Grows a b p
  bound_grows = record {
    names = notes;
    has_switches = λ us are within has. still_switches us (part_uses p) a b are notes within no_switches adds.switches
        has;
    has_coils = λ us are within has. still_coils us (part_uses p) a b are notes within no_coils adds.coils has;
    count_bindings = adds.count (names_by []);
    count_rows = ap (λ v. length v.items) adds.rows ∙ omega arith;
    count_lists = ap (λ v. length v.items) adds.lists
        ∙ sym (ap (λ ls. length a.lists.items + length ls) none ∙ omega arith);
    tables = λ us are within has hasc kept rows lists. gains us are within kept (record { 0 = length a.rows.items })
        (record { 0 = length a.lists.items });
  }

  pub adds_bound : Adds a b (p ∷ [])
  adds_bound = adds_one a b p bound_grows
