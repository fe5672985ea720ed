-- Bindings, one after the other: of a device, of a seat, and of what starts and stops a mode.
use Rattle.std.proofs.Common.{rules, ◌≡◌, ℕ, ◌+◌, ◌≤◌, ◌<◌, List, [], ◌∷◌, ◌++◌, length, map, take, get_or, refl, sym}
use Rattle.std.proofs.Common.{ap, ◌∙◌, subst, append-nil, append_assoc, length-append, arith}
use Rattle.std.{specs.List.flat_map, proofs.lemmas.{Grind.flat_map-append, List.{map_push, map_more, take_all}}}
use Rattle.mpf_values.specs.Events.{Event}
use Rattle.plan_tables.specs.declared.{entries.{Binding.Binding, ModeId.ModeId}, devices.{RowId.RowId, Act.Act}}
use Rattle.plan_tables.specs.declared.entries.Target.TheVariants as targets
use Rattle.plan_tables.specs.PlanFields.{action_lists}
use Rattle.plan_parts.specs.declared.row_parts.ModeControl.{ModeControl, TheVariants.{Start, Stop}}
use Rattle.plan_parts.specs.{Parts.{Whose, start, stop, act_on}, RowViews.control_part}
use Rattle.mpf_plan.specs.{declared.draft.Draft.Draft, Uses.Names, Drafting.seated_part}
use Rattle.mpf_plan.specs.PlanOf.{Use, event_uses, binding_of}
use Rattle.mpf_plan.specs.Drafting.{names_by, AddsBindings, AddsBinding, AddsActs, AddsLists, Adds, control_target}
use Rattle.mpf_plan.proofs.{Numbered.{DependsOn, numbers_stay, handled_stay}, Entries.coils_stay, Bound.adds_bound}
use Rattle.mpf_plan.proofs.Noted.{notes_none, notes_more, within_after, within_before}

-- ---- bindings after bindings

module _ (a b c : Draft) (us vs : List Use) (f g : Names → List Binding) (depends : DependsOn us f)
    (first : AddsBindings a b us f) (then : AddsBindings b c vs g) where
  pub bindings_more : AddsBindings a c (us ++ vs) (λ ns. f ns ++ g ns)
  bindings_more = record {
    keeps = record {
      names = notes_more a.names b.names c.names us vs first.keeps.names then.keeps.names;
      modes = then.keeps.modes ∙ first.keeps.modes;
      game = then.keeps.game ∙ first.keeps.game;
    };
    switches = then.switches ∙ first.switches;
    coils = then.coils ∙ first.coils;
    lists = then.lists ∙ first.lists;
    rows = then.rows ∙ first.rows;
    row_lists = then.row_lists ∙ first.row_lists;
    count = λ ns. let one = first.count ns in let two = then.count ns
        in omega (arith, one, two, length-append (f ns) (g ns));
    bindings = λ before are within.
        then.bindings (before ++ us) (first.keeps.names before are) (within_after before us vs within)
        ∙ ap (λ bs. bs ++ g (names_by ((before ++ us) ++ vs)))
        (first.bindings before are (within_before before us vs within)
        ∙ ap (λ bs. a.bindings.items ++ bs)
        (depends (names_by (before ++ us)) (names_by ((before ++ us) ++ vs)) (numbers_stay before us vs)))
        ∙ append_assoc a.bindings.items (f (names_by ((before ++ us) ++ vs))) (g (names_by ((before ++ us) ++ vs)))
        ∙ ap (λ ws. a.bindings.items ++ (f (names_by ws) ++ g (names_by ws))) (append_assoc before us vs);
  }

-- ---- what a device handles

pub acts_none : (a : Draft) (whose : Whose) (row : RowId) → AddsActs a a whose row []
acts_none a whose row = record {
  keeps = record { names = notes_none a.names; modes = refl; game = refl };
  switches = refl;
  coils = refl;
  lists = refl;
  rows = refl;
  row_lists = refl;
  count = λ ns. omega arith;
  bindings = λ us are within. sym (append-nil a.bindings.items);
}

pub acts_more : (a b c : Draft) (whose : Whose) (row : RowId) (hs : List (Event × Act)) (h : Event × Act)
    → AddsActs a b whose row hs → AddsBinding b c whose h.0 (targets.Act row h.1)
    → AddsActs a c whose row (hs ++ h ∷ [])
acts_more a b c whose row hs h first then =
    let of = λ (ns : Names) (x : Event × Act). binding_of ns whose x.0 (targets.Act row x.1) in
    let uses =
    flat_map-append (λ (x : Event × Act). event_uses x.0) hs (h ∷ [])
    ∙ ap (λ more. flat_map (λ (x : Event × Act). event_uses x.0) hs ++ more) (append-nil (event_uses h.0)) in
    let both = bindings_more a b c (flat_map (λ x. event_uses x.0) hs) (event_uses h.0) (λ ns. map (of ns) hs)
    (λ ns. of ns h ∷ []) (handled_stay whose row hs) first then in
    subst (λ us. AddsBindings a c us (λ ns. map (of ns) (hs ++ h ∷ []))) (sym uses)
    (subst (λ (f : Names → List Binding). AddsBindings a c (flat_map (λ x. event_uses x.0) hs ++ event_uses h.0) f)
    (λ i ns. sym (map_push (of ns) hs h) i) both)

-- ---- modes and seats

pub adds_control : (a b : Draft) (whose : Whose) (m : ModeId) (e : Event) (control : ModeControl)
    → AddsBinding a b whose e (control_target m control) → Adds a b (control_part whose m (e, control) ∷ [])
adds_control a b whose m e Start adds = adds_bound a b whose e (start m) (targets.Start m) adds refl (λ kept l. refl)
adds_control a b whose m e Stop adds = adds_bound a b whose e (stop m) (targets.Stop m) adds refl (λ kept l. refl)

-- the row is kept as another number only if it is too large
pub adds_seated : (a b : Draft) (whose : Whose) (number kept : ℕ) (h : Event × Act) → (number ≤ 65535 → kept ≡ number)
    → AddsBinding a b whose h.0 (targets.Act (record { 0 = kept }) h.1) → Adds a b (seated_part whose number h ∷ [])
adds_seated a b whose number kept h same adds =
    adds_bound a b whose h.0 (act_on (record { 0 = number }) h.1) (targets.Act (record { 0 = kept }) h.1) adds refl
    (λ few l. ap (λ n. targets.Act (record { 0 = n }) h.1) (sym (same few)))

-- ---- effect lists

pub lists_none : (a : Draft) (row : RowId) → AddsLists a a row []
lists_none a row = record {
  keeps = record { names = notes_none a.names; modes = refl; game = refl };
  coils = coils_stay a.names a.names a.coils [] refl (notes_none a.names);
  switches = refl;
  bindings = refl;
  rows = refl;
  row_lists = refl;
  count = omega arith;
  lists = λ us are within. sym (append-nil (action_lists a.lists.items));
}

-- ---- in a loop

pub views_all : {X Y : Type 0} (view : X → Y) (xs : List X) (i : ℕ) → length xs ≤ i → map view (take i xs) ≡ map view xs
views_all view xs i all = ap (map view) (take_all i xs all)

-- the same of an item that is read at its place
pub views_item : {X Y : Type 0} (view : X → Y) (xs : List X) (i : ℕ) (x : X) → i < length xs → x ≡ get_or xs i x
    → map view (take (i + 1) xs) ≡ map view (take i xs) ++ view x ∷ []
views_item view xs i x within is = map_more view xs i x within ∙ ap (λ y. map view (take i xs) ++ view y ∷ []) (sym is)

pub made_item : {X Y Z : Type 0} (view : X → Y) (make : Y → Z) (xs : List X) (i : ℕ) (x : X) → i < length xs
    → x ≡ get_or xs i x
    → map make (map view (take (i + 1) xs)) ≡ map make (map view (take i xs)) ++ make (view x) ∷ []
made_item view make xs i x within is = ap (map make) (views_item view xs i x within is)
    ∙ map_push make (map view (take i xs)) (view x)
