-- Effect lists, one after the other; and a handler that runs one.
use Rattle.std.proofs.Common.{rules, ◌≡◌, ℕ, ◌+◌, ◌≤◌, List, [], ◌∷◌, ◌++◌, length, map, refl, sym, ap, ap₂, ◌∙◌, subst}
use Rattle.std.{proofs.Common.{append-nil, append_assoc, arith}, specs.List.flat_map}
use Rattle.std.proofs.lemmas.{Grind.flat_map-append, List.{length_push, map-append, map-id}}
use Rattle.mpf_values.specs.Events.{Event}
use Rattle.plan_tables.specs.declared.table.Table.{Table, TheVariants.{Switches, Coils}}
use Rattle.plan_tables.specs.declared.{entries.ListId.ListId, devices.RowId.RowId}
use Rattle.plan_tables.specs.declared.entries.Target.TheVariants as targets
use Rattle.plan_tables.specs.PlanFields.{action_lists, mode_entry_view}
use Rattle.plan_parts.specs.{Effects.Effect, Parts.{Part, Whose, handler, run}}
use Rattle.mpf_plan.specs.{declared.draft.Draft.Draft, ByNumber.action_of}
use Rattle.mpf_plan.specs.PlanOf.{Use, event_uses, effect_uses, part_uses, in_table, binding_of}
use Rattle.mpf_plan.specs.Drafting.{kept_names, names_by, AreNamesOf, AreWithin, Notes, NotesCoils, HasOneEach}
use Rattle.mpf_plan.specs.Drafting.{named_coil, new_names, IsKept, AddsBinding, AddsLists, Adds}
use Rattle.mpf_plan.proofs.Numbered.{numbers_stay, binding_stays, lists_stay}
use Rattle.mpf_plan.proofs.Noted.{notes_more, within_after, within_before}
use Rattle.mpf_plan.proofs.{Entries.{coils_stay, coils_more}, Bound.no_more_switches}
use Rattle.mpf_plan.proofs.Grown.{coils_in, GainsPart, Grows, adds_one}
use Rattle.mpf_plan.proofs.Bound.{none-append, event_no_switches, event_no_coils, lists_no_switches, still_switches}

abbrev pub lists_uses : List (List Effect) → List Use
lists_uses ls = flat_map (flat_map effect_uses) ls

-- ---- one list after the other

module _ (a b c : Draft) (row : RowId) (xs : List (List Effect)) (es : List Effect) (first : AddsLists a b row xs)
    (then : AddsLists b c row (es ∷ [])) where
  abbrev U : List Use
  U = lists_uses xs

  abbrev V : List Use
  V = lists_uses (es ∷ [])

  uses : lists_uses (xs ++ es ∷ []) ≡ U ++ V
  uses = flat_map-append (flat_map effect_uses) xs (es ∷ [])

  made : (before : List Use) → AreNamesOf before a.names → AreWithin (before ++ lists_uses (xs ++ es ∷ []))
      → action_lists c.lists.items ≡ action_lists a.lists.items
      ++ map (map (action_of (names_by (before ++ lists_uses (xs ++ es ∷ []))) row)) (xs ++ es ∷ [])
  made before are within =
      let fits = subst (λ vs. AreWithin (before ++ vs)) uses within in
      let all : (before ++ U) ++ V ≡ before ++ lists_uses (xs ++ es ∷ []) = append_assoc before U V
      ∙ ap (λ vs. before ++ vs) (sym uses) in
      let by_names = λ (vs : List Use) (ls : List (List Effect)). map (map (action_of (names_by vs) row)) ls in
      then.lists (before ++ U) (first.keeps.names before are) (within_after before U V fits)
      ∙ ap (λ ls. ls ++ by_names ((before ++ U) ++ V) (es ∷ []))
      (first.lists before are (within_before before U V fits)
      ∙ ap (λ ls. action_lists a.lists.items ++ ls)
      (lists_stay row xs (names_by (before ++ U)) (names_by ((before ++ U) ++ V)) (numbers_stay before U V)))
      ∙ append_assoc (action_lists a.lists.items) (by_names ((before ++ U) ++ V) xs)
      (by_names ((before ++ U) ++ V) (es ∷ []))
      ∙ ap (λ ls. action_lists a.lists.items ++ ls)
      (sym (map-append (map (action_of (names_by ((before ++ U) ++ V)) row)) xs (es ∷ [])))
      ∙ ap (λ vs. action_lists a.lists.items ++ by_names vs (xs ++ es ∷ [])) all

  pub lists_more : AddsLists a c row (xs ++ es ∷ [])
  lists_more = record {
    keeps = record {
      names = subst (Notes a.names c.names) (sym uses)
          (notes_more a.names b.names c.names U V first.keeps.names then.keeps.names);
      modes = then.keeps.modes ∙ first.keeps.modes;
      game = then.keeps.game ∙ first.keeps.game;
    };
    coils = subst (NotesCoils a.names c.names a.coils c.coils) (sym uses)
        (coils_more a.names b.names c.names a.coils b.coils c.coils U V first.coils then.coils);
    switches = then.switches ∙ first.switches;
    bindings = then.bindings ∙ first.bindings;
    rows = then.rows ∙ first.rows;
    row_lists = then.row_lists ∙ first.row_lists;
    count = then.count ∙ ap (λ n. n + 1) first.count ∙ (let more = length_push xs es in omega (arith, more));
    lists = made;
  }

-- ---- coils that are named

-- coils of effects, where no coil is defined
pub noted_coils : (a b : Draft) (vs : List Use) → NotesCoils a.names b.names a.coils b.coils vs
    → (us : List Use) → AreNamesOf us a.names → AreWithin (us ++ vs) → HasOneEach Coils a.names a.coils
    → coils_in b ≡ map (λ c. c) (coils_in a
    ++ map named_coil (new_names (kept_names a.names Coils) (kept_names b.names Coils)))
noted_coils a b vs noted us are within has =
    noted.entries us are within has ∙ sym (map-id
    (coils_in a ++ map named_coil (new_names (kept_names a.names Coils) (kept_names b.names Coils))))

-- ---- a handler, with its list

module _ (a b c : Draft) (whose : Whose) (e : Event) (es : List Effect) (row : RowId) (list : ListId)
    (bind : AddsBinding a b whose e (targets.Run list)) (does : AddsLists b c row (es ∷ []))
    (row_is : length a.rows.items ≤ 65535 → row ≡ record { 0 = length a.rows.items })
    (list_is : length a.lists.items ≤ 4294967295 → list ≡ record { 0 = length a.lists.items }) where
  abbrev p : Part
  p = handler whose e (run es)

  abbrev E : List Use
  E = event_uses e

  abbrev F : List Use
  F = lists_uses (es ∷ [])

  no_switches : in_table Switches (E ++ F) ≡ []
  no_switches = none-append Switches E F (event_no_switches e) (lists_no_switches (es ∷ []))

  notes : Notes a.names c.names (E ++ F)
  notes = notes_more a.names b.names c.names E F bind.keeps.names does.keeps.names

  switches_same : c.switches ≡ a.switches
  switches_same = does.switches ∙ bind.switches

  noted : NotesCoils a.names c.names a.coils c.coils (E ++ F)
  noted =
      coils_more a.names b.names c.names a.coils a.coils c.coils E F
      (coils_stay a.names b.names a.coils E (event_no_coils e) bind.keeps.names)
      (subst (λ v. NotesCoils b.names c.names v c.coils F) bind.coils does.coils)

  gains : (us : List Use) → AreNamesOf us a.names → AreWithin (us ++ (E ++ F)) → HasOneEach Coils a.names a.coils
      → length a.rows.items ≤ 65535 → length a.lists.items ≤ 4294967295
      → GainsPart a c p (names_by (us ++ (E ++ F))) (record { 0 = length a.rows.items })
      (record { 0 = length a.lists.items })
  gains us are within has few_rows few_lists =
      let all : (us ++ E) ++ F ≡ us ++ (E ++ F) = append_assoc us E F in
      let fits = within_before us E F within in
      record {
        modes = ap (λ v. map mode_entry_view v.items) (does.keeps.modes ∙ bind.keeps.modes)
            ∙ sym (append-nil (map mode_entry_view a.modes.items));
        switches = no_more_switches us (E ++ F) a c are notes within no_switches switches_same;
        coils = noted_coils a c (E ++ F) noted us are within has;
        lists = does.lists (us ++ E) (bind.keeps.names us are) (within_after us E F within)
            ∙ ap₂ (λ v vs. action_lists v.items ++ map (map (action_of (names_by vs) row)) (es ∷ [])) bind.lists all
            ∙ ap (λ r. action_lists a.lists.items ++ map (map (action_of (names_by (us ++ (E ++ F))) r)) (es ∷ []))
            (row_is few_rows);
        bindings = ap (λ v. v.items) does.bindings
            ∙ bind.bindings us are fits
            ∙ ap (λ x. a.bindings.items ++ x ∷ [])
            (binding_stays whose e (targets.Run list) (names_by (us ++ E)) (names_by ((us ++ E) ++ F))
            (numbers_stay us E F))
            ∙ ap₂ (λ vs l. a.bindings.items ++ binding_of (names_by vs) whose e (targets.Run l) ∷ []) all
            (list_is few_lists);
        rows = ap (λ v. v.items) (does.rows ∙ bind.rows) ∙ sym (append-nil a.rows.items);
        row_lists = ap (λ v. v.items) (does.row_lists ∙ bind.row_lists) ∙ sym (append-nil a.row_lists.items);
        game = does.keeps.game ∙ bind.keeps.game;
      }

  handled_grows : Grows a c p
  handled_grows = record {
    names = notes;
    has_switches = λ us are within has. still_switches us (E ++ F) a c are notes within no_switches switches_same has;
    has_coils = noted.count;
    count_bindings = ap (λ v. length v.items) does.bindings ∙ bind.count (names_by []);
    count_rows = ap (λ v. length v.items) (does.rows ∙ bind.rows) ∙ omega arith;
    count_lists = does.count ∙ ap (λ v. length v.items + 1) bind.lists;
    tables = λ us are within hass hasc kept few_rows few_lists. gains us are within hasc few_rows few_lists;
  }

  pub adds_handled : Adds a c (p ∷ [])
  adds_handled = adds_one a c p handled_grows
