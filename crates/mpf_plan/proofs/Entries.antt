-- One entry for each name of a switch, and of a coil: a new name has a blank entry, and uses of other tables leave
-- them.
use Rattle.std.proofs.Common.{◌≡◌, ℕ, ℤ, ◌+◌, ◌<◌, ◌≤◌, ◌⊎◌, inl, inr, Bool, true, false, cond, List, [], ◌∷◌, ◌++◌}
use Rattle.std.proofs.Common.{map, length, take, get_or, Vec, Global, refl, sym, ap, ap₂, ◌∙◌, subst, append-nil}
use Rattle.std.proofs.{Common.{append_assoc, arith}, Math.Seq.{drop-append_seam, drop-length}}
use Rattle.std.specs.{List.{flat_map, list_any, zip}, Str.bytes_eq}
use Rattle.std.proofs.lemmas.List.{length_push, map_push, map-append}
use Rattle.indexmap.proofs.ReorderLemmas.{zip_push}
use Rattle.plan_tables.specs.declared.table.Table.{Table, TheVariants.{Events, Switches, Coils, Variables}}
use Rattle.plan_tables.specs.declared.entries.{CoilLimits.CoilLimits, EventId.EventId, Action.TheVariants.Change}
use Rattle.plan_tables.specs.declared.{entries.{SwitchEntry.SwitchEntry, VariableId.VariableId}, devices.RowId.RowId}
use Rattle.machine_settings.specs.declared.words.VariableAction.{VariableAction}
use Rattle.machine_definitions.specs.Players.{player_event}
use Rattle.plan_tables.specs.PlanFields.{coil_entry_view, coils_view, switch_entry_view, switches_view}
use Rattle.plan_tables.specs.PlanView.{no_coil, no_switch}
use Rattle.plan_parts.specs.declared.effects.Effect as effects
use Rattle.plan_parts.specs.{Effects.changes, View.effect_view}
use Rattle.first_names.specs.FirstNames.{with_name}
use Rattle.mpf_plan.specs.{PlanOf.{Use, effect_uses, in_table}, Drafting.{names_by, new_names}}
use Rattle.mpf_plan.specs.ByNumber.{action_of, event_of, variable_of}
use Rattle.mpf_plan.specs.declared.names.Names as held_names
use Rattle.mpf_plan.specs.Drafting.{AreNamesOf, AreWithin, HasNames, HasOneEach, IsNumbered, Notes, NotesCoil}
use Rattle.mpf_plan.specs.Drafting.{NotesCoils, NotesEffects, NotesSwitch, kept_names, named_coil, named_switch}
use Rattle.mpf_plan.proofs.{Named.{added_names, name_noted, names_more, none_noted, within_front}, Numbered.event_stays}
use Rattle.mpf_plan.proofs.Noted.{kept_all, notes_more, numbered_both, uses_at, uses_by, within_after, within_before}

-- ---- the names that are kept, as uses come

module _ (a b : held_names.Names) (before us : List Use) (t : Table) (has : HasNames t) (are : AreNamesOf before a)
    (after : AreNamesOf (before ++ us) b) (within : AreWithin (before ++ us)) where
  was : kept_names a t ≡ names_by before t
  was = kept_all before a t are (within_front before us within t has)

  -- those that are new come last
  pub kept_more : kept_names b t ≡ kept_names a t ++ added_names before us t
  kept_more =
      kept_all (before ++ us) b t after (within t has) ∙ names_more before us t
      ∙ ap (λ ns. ns ++ added_names before us t) (sym was)

  -- uses of other tables leave them
  pub kept_same : in_table t us ≡ [] → kept_names b t ≡ kept_names a t
  kept_same none = kept_all (before ++ us) b t after (within t has) ∙ none_noted before us t none ∙ sym was

-- one use of the table
pub kept_noted : (a b : held_names.Names) (before : List Use) (u : Use) → HasNames u.0 → AreNamesOf before a
    → AreNamesOf (before ++ u ∷ []) b → AreWithin (before ++ u ∷ [])
    → kept_names b u.0 ≡ with_name (kept_names a u.0) u.1
kept_noted a b before u has are after within =
    kept_all (before ++ u ∷ []) b u.0 after (within u.0 has)
    ∙ name_noted before u u.0 refl
    ∙ ap (λ ns. with_name ns u.1) (sym (was a b before (u ∷ []) u.0 has are after within))

-- ---- entries of names that are new

-- what is said of new names in two steps
new_of : (old more : List (List ℕ)) → new_names old (old ++ more) ≡ more
new_of old more = drop-append_seam old more

pub news_more : {V : Type 0} (blank : List ℕ → V) (ka kb kc p q : List (List ℕ)) → kb ≡ ka ++ p → kc ≡ kb ++ q
    → map blank (new_names ka kb) ++ map blank (new_names kb kc) ≡ map blank (new_names ka kc)
news_more blank ka kb kc p q first next =
    let front : new_names ka kb ≡ p = ap (new_names ka) first ∙ new_of ka p in
    let back : new_names kb kc ≡ q = ap (new_names kb) next ∙ new_of kb q in
    let all : new_names ka kc ≡ p ++ q =
    ap (new_names ka) (next ∙ ap (λ k. k ++ q) first ∙ append_assoc ka p q) ∙ new_of ka (p ++ q) in
    ap₂ (λ x y. map blank x ++ map blank y) front back ∙ sym (map-append blank p q) ∙ ap (map blank) (sym all)

module _ {E V : Type 0} (view : List (List ℕ) → List E → List V) (blank : List ℕ → V) where
  -- there is one entry more, of which no more is known
  abbrev pub HasBlank : (xs ys : List E) → Type 0
  HasBlank xs ys =
      (length ys ≡ length xs + 1)
      × ((ns : List (List ℕ)) (n : List ℕ) → length ns ≡ length xs
      → view (ns ++ n ∷ []) ys ≡ view ns xs ++ blank n ∷ [])

  -- and so it is if there is a new name for it
  abbrev pub HasBlankWhereNew : (kb : List (List ℕ)) (xs ys : List E) → Type 0
  HasBlankWhereNew kb xs ys = ((length xs < length kb) × HasBlank xs ys) ⊎ ((length kb ≤ length xs) × (ys ≡ xs))

  abbrev IsNoted : (ka kb : List (List ℕ)) (xs ys : List E) → Type 0
  IsNoted ka kb xs ys = (length ys ≡ length kb) × (view kb ys ≡ view ka xs ++ map blank (new_names ka kb))

  -- entries stay as they are where names do
  pub none_new : (ka kb : List (List ℕ)) (xs : List E) → kb ≡ ka → length xs ≡ length ka → IsNoted ka kb xs xs
  none_new ka kb xs same each = (
    each ∙ ap length (sym same),
    ap (λ k. view k xs) same
        ∙ sym (append-nil (view ka xs))
        ∙ ap (λ l. view ka xs ++ map blank l) (sym (ap (new_names ka) same ∙ drop-length ka)),
  )

  one_new : (ka kb : List (List ℕ)) (n : List ℕ) (xs ys : List E) → kb ≡ ka ++ n ∷ [] → length xs ≡ length ka
      → HasBlank xs ys → IsNoted ka kb xs ys
  one_new ka kb n xs ys more each (count, blanks) = (
    omega (arith, count, each, ap length more, length_push ka n),
    ap (λ k. view k ys) more
        ∙ blanks ka n (sym each)
        ∙ ap (λ l. view ka xs ++ map blank l) (sym (ap (new_names ka) more ∙ new_of ka (n ∷ []))),
  )

  -- a name is noted
  pub one_noted : (ka kb : List (List ℕ)) (n : List ℕ) (xs ys : List E) → kb ≡ with_name ka n → length xs ≡ length ka
      → HasBlankWhereNew kb xs ys → IsNoted ka kb xs ys
  one_noted ka kb n xs ys is each pushed = by (list_any (λ m. bytes_eq n m) ka) is pushed
    where
      by : (b : Bool) → kb ≡ cond b ka (ka ++ n ∷ []) → HasBlankWhereNew kb xs ys → IsNoted ka kb xs ys
      by true same (inl (less, more)) = absurd (omega (arith, less, each, ap length same))
      by true same (inr (full, kept)) = (
        ap length kept ∙ (none_new ka kb xs same each).0,
        ap (view kb) kept ∙ (none_new ka kb xs same each).1,
      )
      by false more (inl (less, blanks)) = one_new ka kb n xs ys more each blanks
      by false more (inr (full, kept)) = absurd (omega (arith, full, each, ap length more, length_push ka n))

-- ---- switches

-- one switch more, of which no more is known
pub blank_switch : (xs ys : List SwitchEntry) (e : SwitchEntry) → ys ≡ xs ++ e ∷ [] → e.listeners.items ≡ []
    → e.active.items ≡ [] → e.inactive.items ≡ []
    → e.kind ≡ no_switch.kind → e.confirms_playfield ≡ false
    → (ns : List (List ℕ)) (n : List ℕ) → length ns ≡ length xs
    → switches_view (ns ++ n ∷ []) ys ≡ switches_view ns xs ++ named_switch n ∷ []
blank_switch xs ys e more listeners active inactive kind confirms ns n same =
    ap (switches_view (ns ++ n ∷ [])) more
    ∙ ap (map switch_entry_view) (zip_push ns xs n e (sym same))
    ∙ map_push switch_entry_view (zip ns xs) (n, e)
    ∙ (λ i. switches_view ns xs
    ++ record {
      name = n;
      kind = kind i;
      listeners = listeners i;
      confirms_playfield = confirms i;
      active = active i;
      inactive = inactive i;
    } ∷ [])

pub switch_noted : (a b : held_names.Names) (before after : Vec SwitchEntry Global) (n : List ℕ)
    → Notes a b ((Switches, n) ∷ [])
    → HasBlankWhereNew switches_view named_switch (kept_names b Switches) before.items after.items
    → NotesSwitch a b before after n
switch_noted a b before after n notes pushed = record {
  names = notes;
  count = λ us are within each. (noted us are within each).0;
  entries = λ us are within each. (noted us are within each).1;
}
  where
    noted : (us : List Use) → AreNamesOf us a → AreWithin (us ++ (Switches, n) ∷ []) → HasOneEach Switches a before
        → IsNoted switches_view named_switch (kept_names a Switches) (kept_names b Switches) before.items after.items
    noted us are within each =
        one_noted switches_view named_switch (kept_names a Switches) (kept_names b Switches) n before.items after.items
        (kept_noted a b us (Switches, n) tt are (notes us are) within) each pushed

-- ---- coils

-- one coil more
blank_coil : (xs ys : List CoilLimits) → ys ≡ xs ++ no_coil.limits ∷ [] → HasBlank coils_view named_coil xs ys
blank_coil xs ys more = (
  ap length more ∙ length_push xs no_coil.limits,
  λ ns n same. ap (coils_view (ns ++ n ∷ [])) more
      ∙ ap (map coil_entry_view) (zip_push ns xs n no_coil.limits (sym same))
      ∙ map_push coil_entry_view (zip ns xs) (n, no_coil.limits),
)

-- a coil is pushed where its name is new
abbrev pub HasCoilWhereNew : (kb : List (List ℕ)) (xs ys : List CoilLimits) → Type 0
HasCoilWhereNew kb xs ys =
    ((length xs < length kb) × (ys ≡ xs ++ no_coil.limits ∷ [])) ⊎ ((length kb ≤ length xs) × (ys ≡ xs))

pub coil_noted : (a b : held_names.Names) (before after : Vec CoilLimits Global) (n : List ℕ)
    → Notes a b ((Coils, n) ∷ [])
    → HasCoilWhereNew (kept_names b Coils) before.items after.items → NotesCoil a b before after n
coil_noted a b before after n notes pushed = record {
  names = notes;
  count = λ us are within each. (noted us are within each).0;
  entries = λ us are within each. (noted us are within each).1;
}
  where
    blanks : HasCoilWhereNew (kept_names b Coils) before.items after.items
        → HasBlankWhereNew coils_view named_coil (kept_names b Coils) before.items after.items
    blanks (inl (less, more)) = inl (less, blank_coil before.items after.items more)
    blanks (inr is) = inr is

    noted : (us : List Use) → AreNamesOf us a → AreWithin (us ++ (Coils, n) ∷ []) → HasOneEach Coils a before
        → IsNoted coils_view named_coil (kept_names a Coils) (kept_names b Coils) before.items after.items
    noted us are within each =
        one_noted coils_view named_coil (kept_names a Coils) (kept_names b Coils) n before.items after.items
        (kept_noted a b us (Coils, n) tt are (notes us are) within) each (blanks pushed)

-- uses of other tables leave the coils
pub coils_stay : (a b : held_names.Names) (coils : Vec CoilLimits Global) (us : List Use) → in_table Coils us ≡ []
    → Notes a b us → NotesCoils a b coils coils us
coils_stay a b coils us none notes = record {
  names = notes;
  count = λ before are within each. (noted before are within each).0;
  entries = λ before are within each. (noted before are within each).1;
}
  where
    noted : (before : List Use) → AreNamesOf before a → AreWithin (before ++ us) → HasOneEach Coils a coils
        → IsNoted coils_view named_coil (kept_names a Coils) (kept_names b Coils) coils.items coils.items
    noted before are within each =
        none_new coils_view named_coil (kept_names a Coils) (kept_names b Coils) coils.items
        (kept_same a b before us Coils tt are (notes before are) within none) each

-- uses after uses
module _ (a b c : held_names.Names) (x y z : Vec CoilLimits Global) (us vs : List Use) where
  pub coils_more : NotesCoils a b x y us → NotesCoils b c y z vs → NotesCoils a c x z (us ++ vs)
  coils_more first next = record {
    names = notes_more a b c us vs first.names next.names;
    count = λ before are within each. next.count (before ++ us) (first.names before are)
        (within_after before us vs within) (first.count before are (within_before before us vs within) each);
    entries = λ before are within each.
        let front = within_before before us vs within in
        let all = within_after before us vs within in
        let mid = first.names before are in
        next.entries (before ++ us) mid all (first.count before are front each)
        ∙ ap (λ l. l ++ map named_coil (new_names (kept_names b Coils) (kept_names c Coils)))
        (first.entries before are front each)
        ∙ append_assoc (coils_view (kept_names a Coils) x.items)
        (map named_coil (new_names (kept_names a Coils) (kept_names b Coils)))
        (map named_coil (new_names (kept_names b Coils) (kept_names c Coils)))
        ∙ ap (λ l. coils_view (kept_names a Coils) x.items ++ l)
        (news_more named_coil (kept_names a Coils) (kept_names b Coils) (kept_names c Coils)
        (added_names before us Coils) (added_names (before ++ us) vs Coils)
        (kept_more a b before us Coils tt are mid front)
        (kept_more b c (before ++ us) vs Coils tt mid (next.names (before ++ us) mid) all));
  }

-- one effect more of a list
pub effects_next : (a b c : held_names.Names) (x y z : Vec CoilLimits Global) (es : List effects.Effect) (i : ℕ)
    (d : effects.Effect)
    → i < length es
    → NotesCoils a b x y (flat_map uses_by (take i es)) → NotesEffects b c y z (effect_view (get_or es i d) ∷ [])
    → NotesCoils a c x z (flat_map uses_by (take (i + 1) es))
effects_next a b c x y z es i d within first next =
    subst (NotesCoils a c x z) (sym (uses_at uses_by es i d within))
    (coils_more a b c x y z (flat_map uses_by (take i es)) (uses_by (get_or es i d)) first
    (subst (NotesCoils b c y z) (append-nil (uses_by (get_or es i d))) next))

-- ---- what an effect does, by number

-- a variable that is changed: its event is noted first
module _ (a b c : held_names.Names) (v : List ℕ) (coils : Vec CoilLimits Global)
    (first : Notes a b ((Events, player_event v) ∷ [])) where
  pub change_noted : Notes b c ((Variables, v) ∷ [])
      → NotesCoils a c coils coils ((Events, player_event v) ∷ (Variables, v) ∷ [])
  change_noted next =
      coils_stay a c coils ((Events, player_event v) ∷ (Variables, v) ∷ []) refl
      (notes_more a b c ((Events, player_event v) ∷ []) ((Variables, v) ∷ []) first next)

  pub change_numbered : (row : RowId) (action : VariableAction) (number : ℤ) (event : EventId) (variable : VariableId)
      → IsNumbered a ((Events, player_event v) ∷ []) (λ ns. event_of (ns Events) (player_event v)) event
      → IsNumbered b ((Variables, v) ∷ []) (λ ns. variable_of (ns Variables) v) variable
      → IsNumbered a (effect_uses (changes v action number)) (λ ns. action_of ns row (changes v action number))
      (Change variable action number event)
  change_numbered row action number event variable named known =
      numbered_both (λ e k. Change k action number e) (λ ns. event_of (ns Events) (player_event v))
      (λ ns. variable_of (ns Variables) v) event variable a b
      ((Events, player_event v) ∷ []) ((Variables, v) ∷ []) (event_stays (player_event v)) first named known
