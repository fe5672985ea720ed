-- What is noted in turn: uses come after uses, and what is said by number goes over to the uses after it.
use Rattle.std.proofs.Common.{rules, ◌≡◌, ℕ, ◌+◌, ◌<◌, ◌≤◌, ◌⊎◌, inl, inr, false, List, [], ◌∷◌, ◌++◌, map, length}
use Rattle.std.proofs.Common.{take, set, get_or, Some, None, refl, sym, ap, ap₂, ◌∙◌, subst, append-nil, append_assoc}
use Rattle.std.proofs.{Common.arith, lemmas.{Grind.flat_map-append, Option.{slice_get_cases, slice_get-get_or}}}
use Rattle.std.specs.{Prelude.{slice_get, not}, List.flat_map, Str.bytes_eq}
use Rattle.std.proofs.lemmas.List.{get_or_default, take_all, take_more, map_push, Sums.prefix_len-le-length}
use Rattle.plan_tables.specs.declared.table.Table.{Table, TheVariants.Events}
use Rattle.plan_tables.specs.declared.{names.NameTable.NameTable, devices.RowId.RowId}
use Rattle.plan_tables.specs.declared.entries.{EventId.EventId, Action.Action}
use Rattle.plan_tables.specs.{Limits.{limit_of, order_of}, NamesKept.{names_kept, names_of}}
use Rattle.first_names.specs.FirstNames.{with_name, IsNameTableOf, IsNumberIn}
use Rattle.plan_parts.specs.{declared.names.NamePieces.NamePieces, View.{effect_view, pieces_text}}
use Rattle.plan_parts.specs.declared.effects.Effect as effects
use Rattle.mpf_plan.specs.{Uses.{Names, number_among}, ByNumber.{action_of, event_of}}
use Rattle.mpf_plan.specs.{PlanOf.{Use, effect_uses}, Drafting.names_uses}
use Rattle.mpf_plan.specs.declared.names.Names as held_names
use Rattle.mpf_plan.specs.Drafting.{AreNamesOf, AreWithin, HasNames, IsNumbered, Notes, kept_names, names_by}
use Rattle.mpf_plan.proofs.{ByTable.{place_within, each_changed}, Numbered.{DependsOn, all_stay, numbers_stay}}
use Rattle.mpf_plan.proofs.Named.{name_noted, others_noted, within_front}

-- ---- in turn

pub notes_none : (a : held_names.Names) → Notes a a []
notes_none a us are = subst (λ l. AreNamesOf l a) (sym (append-nil us)) are

pub notes_more : (a b c : held_names.Names) (us vs : List Use) → Notes a b us → Notes b c vs → Notes a c (us ++ vs)
notes_more a b c us vs first next before are =
    subst (λ l. AreNamesOf l c) (append_assoc before us vs) (next (before ++ us) (first before are))

-- uses that come after more uses
pub within_after : (before us vs : List Use) → AreWithin (before ++ (us ++ vs)) → AreWithin ((before ++ us) ++ vs)
within_after before us vs within = subst AreWithin (sym (append_assoc before us vs)) within

pub within_before : (before us vs : List Use) → AreWithin (before ++ (us ++ vs)) → AreWithin (before ++ us)
within_before before us vs within = within_front (before ++ us) vs (within_after before us vs within)

module _ {X : Type 0} (what : Names → X) (it : X) where
  -- what is said of uses is said of them with more
  pub numbered_front : (a : held_names.Names) (us vs : List Use) → DependsOn us what → IsNumbered a us what it
      → IsNumbered a (us ++ vs) what it
  numbered_front a us vs depends is before are within =
      is before are (within_before before us vs within)
      ∙ depends (names_by (before ++ us)) (names_by ((before ++ us) ++ vs)) (numbers_stay before us vs)
      ∙ ap (λ l. what (names_by l)) (append_assoc before us vs)

  -- what is said of later uses is said of all
  pub numbered_back : (a b : held_names.Names) (us vs : List Use) → Notes a b us → IsNumbered b vs what it
      → IsNumbered a (us ++ vs) what it
  numbered_back a b us vs notes is before are within =
      is (before ++ us) (notes before are) (within_after before us vs within)
      ∙ ap (λ l. what (names_by l)) (append_assoc before us vs)

-- two things, one after the other, of which one is made
pub numbered_both : {X Y Z : Type 0} (make : X → Y → Z) (f : Names → X) (g : Names → Y) (x : X) (y : Y)
    (a b : held_names.Names) (us vs : List Use)
    → DependsOn us f → Notes a b us → IsNumbered a us f x → IsNumbered b vs g y
    → IsNumbered a (us ++ vs) (λ ns. make (f ns) (g ns)) (make x y)
numbered_both make f g x y a b us vs depends notes first next before are within =
    ap₂ make (numbered_front f x a us vs depends first before are within)
    (numbered_back g y a b us vs notes next before are within)

-- ---- one item of a list after the other

module _ {X : Type 0} (uses : X → List Use) (xs : List X) (i : ℕ) (x : X) (within : i < length xs)
    (at : x ≡ get_or xs i x) where
  abbrev so_far : List Use
  so_far = flat_map uses (take i xs)

  one_taken : take (i + 1) xs ≡ take i xs ++ x ∷ []
  one_taken = take_more xs i x within ∙ ap (λ y. take i xs ++ y ∷ []) (sym at)

  -- the uses of one item more
  pub uses_next : flat_map uses (take (i + 1) xs) ≡ so_far ++ uses x
  uses_next =
      ap (flat_map uses) one_taken ∙ flat_map-append uses (take i xs) (x ∷ [])
      ∙ ap (λ us. so_far ++ us) (append-nil (uses x))

  pub notes_next : (a b c : held_names.Names) → Notes a b so_far → Notes b c (uses x)
      → Notes a c (flat_map uses (take (i + 1) xs))
  notes_next a b c first next = subst (Notes a c) (sym uses_next) (notes_more a b c so_far (uses x) first next)

  -- and what it gives by number
  pub numbers_next : {Y : Type 0} (give : Names → X → Y) → ((y : X) → DependsOn (uses y) (λ ns. give ns y))
      → (a b : held_names.Names) (ys : List Y) (y : Y)
      → Notes a b so_far → IsNumbered a so_far (λ ns. map (give ns) (take i xs)) ys
      → IsNumbered b (uses x) (λ ns. give ns x) y
      → IsNumbered a (flat_map uses (take (i + 1) xs)) (λ ns. map (give ns) (take (i + 1) xs)) (ys ++ y ∷ [])
  numbers_next give each a b ys y notes first next before are fits =
      let ends : AreWithin (before ++ (so_far ++ uses x)) = subst (λ us. AreWithin (before ++ us)) uses_next fits in
      numbered_both (λ ls l. ls ++ l ∷ []) (λ ns. map (give ns) (take i xs)) (λ ns. give ns x) ys y a b so_far (uses x)
      (all_stay uses give each (take i xs)) notes first next before are ends
      ∙ ap (λ us. map (give (names_by (before ++ us))) (take i xs) ++ give (names_by (before ++ us)) x ∷ [])
      (sym uses_next)
      ∙ sym (ap (map (give (names_by (before ++ flat_map uses (take (i + 1) xs))))) one_taken
      ∙ map_push (give (names_by (before ++ flat_map uses (take (i + 1) xs)))) (take i xs) x)

-- the same of an item by its place
module _ {X : Type 0} (uses : X → List Use) (xs : List X) (i : ℕ) (d : X) (within : i < length xs) where
  itself : get_or xs i d ≡ get_or xs i (get_or xs i d)
  itself = get_or_default xs i d (get_or xs i d) within

  pub uses_at : flat_map uses (take (i + 1) xs) ≡ flat_map uses (take i xs) ++ uses (get_or xs i d)
  uses_at = uses_next uses xs i (get_or xs i d) within itself

  pub notes_at : (a b c : held_names.Names) → Notes a b (flat_map uses (take i xs)) → Notes b c (uses (get_or xs i d))
      → Notes a c (flat_map uses (take (i + 1) xs))
  notes_at a b c first next = notes_next uses xs i (get_or xs i d) within itself a b c first next

  pub numbers_at : {Y : Type 0} (give : Names → X → Y) → ((y : X) → DependsOn (uses y) (λ ns. give ns y))
      → (a b : held_names.Names) (ys : List Y) (y : Y)
      → Notes a b (flat_map uses (take i xs))
      → IsNumbered a (flat_map uses (take i xs)) (λ ns. map (give ns) (take i xs)) ys
      → IsNumbered b (uses (get_or xs i d)) (λ ns. give ns (get_or xs i d)) y
      → IsNumbered a (flat_map uses (take (i + 1) xs)) (λ ns. map (give ns) (take (i + 1) xs)) (ys ++ y ∷ [])
  numbers_at give each a b ys y notes first next =
      numbers_next uses xs i (get_or xs i d) within itself give each a b ys y notes first next

-- ---- all events of a list

-- one use of each
abbrev pub use_in : Table → NamePieces → List Use
use_in table n = (table, pieces_text n) ∷ []

abbrev pub event_in : Names → NamePieces → EventId
event_in ns n = event_of (ns Events) (pieces_text n)

names_uses-each : (table : Table) (ns : List NamePieces) → flat_map (use_in table) ns ≡ names_uses table ns
names_uses-each table [] = refl
names_uses-each table (n ∷ ns) = ap (λ us. (table, pieces_text n) ∷ us) (names_uses-each table ns)

module _ (a b : held_names.Names) (ns : List NamePieces) (i : ℕ) (past : length ns ≤ i) where
  pub notes_all : (table : Table) → Notes a b (flat_map (use_in table) (take i ns)) → Notes a b (names_uses table ns)
  notes_all table = subst (Notes a b) (ap (flat_map (use_in table)) (take_all i ns past) ∙ names_uses-each table ns)

  pub numbers_all : (es : List EventId)
      → IsNumbered a (flat_map (use_in Events) (take i ns)) (λ m. map (event_in m) (take i ns)) es
      → IsNumbered a (names_uses Events ns) (λ m. map (event_in m) ns) es
  numbers_all es is = subst (λ us. IsNumbered a us (λ m. map (event_in m) ns) es) (names_uses-each Events ns)
      (subst (λ l. IsNumbered a (flat_map (use_in Events) l) (λ m. map (event_in m) l) es) (take_all i ns past) is)

-- ---- all effects of a list

abbrev pub uses_by : effects.Effect → List Use
uses_by e = effect_uses (effect_view e)

effect_uses-each : (es : List effects.Effect) → flat_map uses_by es ≡ flat_map effect_uses (map effect_view es)
effect_uses-each [] = refl
effect_uses-each (e ∷ es) = ap (λ us. uses_by e ++ us) (effect_uses-each es)

actions-each : (ns : Names) (row : RowId) (es : List effects.Effect)
    → map (λ e. action_of ns row (effect_view e)) es ≡ map (action_of ns row) (map effect_view es)
actions-each ns row [] = refl
actions-each ns row (e ∷ es) = ap (λ acts. action_of ns row (effect_view e) ∷ acts) (actions-each ns row es)

module _ (es : List effects.Effect) (i : ℕ) (past : length es ≤ i) where
  -- the uses of all
  pub effects_all : flat_map uses_by (take i es) ≡ flat_map effect_uses (map effect_view es)
  effects_all = ap (flat_map uses_by) (take_all i es past) ∙ effect_uses-each es

  pub actions_all : (a : held_names.Names) (row : RowId) (acts : List Action)
      → IsNumbered a (flat_map uses_by (take i es)) (λ ns. map (λ e. action_of ns row (effect_view e)) (take i es)) acts
      → IsNumbered a (flat_map effect_uses (map effect_view es)) (λ ns. map (action_of ns row) (map effect_view es))
      acts
  actions_all a row acts is us are within =
      subst (λ more. IsNumbered a more (λ ns. map (λ e. action_of ns row (effect_view e)) (take i es)) acts) effects_all
      is us are within
      ∙ ap (map (λ e. action_of (names_by (us ++ flat_map effect_uses (map effect_view es))) row (effect_view e)))
      (take_all i es past)
      ∙ actions-each (names_by (us ++ flat_map effect_uses (map effect_view es))) row es

-- ---- the names that are kept

-- within the limit of a table all of its names are kept
pub kept_all : (us : List Use) (held : held_names.Names) (t : Table) → AreNamesOf us held
    → length (names_by us t) ≤ limit_of t → kept_names held t ≡ names_by us t
kept_all us held t are within = at (slice_get_cases held.tables.items (order_of t)).1
  where
    by : (k : NameTable) → k.limit ≡ limit_of t → IsNameTableOf (names_by us t) k → names_of k.set.keys ≡ names_by us t
    by k limit (inl (above, more)) = absurd (omega (arith, more, limit, within))
    by k limit (inr (below, same, fits)) = same

    at : ((k : NameTable) × (order_of t < length held.tables.items)
        × (slice_get held.tables.items (order_of t) ≡ Some k) × (get_or held.tables.items (order_of t) k ≡ k))
        ⊎ ((length held.tables.items ≤ order_of t) × (slice_get held.tables.items (order_of t) ≡ None))
        → kept_names held t ≡ names_by us t
    at (inl (k, inside, there, same)) = ap names_kept there ∙ by k (are.limits t k there) (are.names t k there)
    at (inr (past, none)) = absurd (omega (arith, past, held.count, place_within t))

-- tables without names
pub none_kept : (held : held_names.Names)
    → ((t : Table) (k : NameTable) → slice_get held.tables.items (order_of t) ≡ Some k
    → (k.limit ≡ limit_of t) × (k.above ≡ false) × (k.set.keys ≡ []))
    → AreNamesOf [] held
none_kept held empty = record {
  limits = λ t k at. (empty t k at).0;
  names = λ t k at. inr ((empty t k at).1, ap names_of (empty t k at).2, omega arith);
}

-- ---- one use more

limits_few : (t : Table) → limit_of t ≤ 65535
limits_few x1 = search rules

module _ (old : held_names.Names) (u : Use) (p : ℕ) (was : NameTable) (place : p ≡ order_of u.0)
    (got : was ≡ get_or old.tables.items p was) where
  here : was ≡ get_or old.tables.items (order_of u.0) was
  here = got ∙ ap (λ k. get_or old.tables.items k was) place

  pub noted : (new : held_names.Names) (is : NameTable) → new.tables.items ≡ set old.tables.items p is
      → is.limit ≡ was.limit
      → ((all : List (List ℕ)) → IsNameTableOf all was → IsNameTableOf (with_name all u.1) is) → Notes old new (u ∷ [])
  noted new is changed limit adds us are =
      let moved : new.tables.items ≡ set old.tables.items (order_of u.0) is = changed
      ∙ ap (λ k. set old.tables.items k is) place in
      record {
        limits = λ t k at. each_changed (λ t k. k.limit ≡ limit_of t) (λ t k. k.limit ≡ limit_of t) u.0 old.tables.items
            was is old.count here
            (λ t e h. limit ∙ h) (λ t e k h. h) are.limits t k
            (subst (λ ts. slice_get ts (order_of t) ≡ Some k) moved at);
        names = λ t k at. each_changed (λ t k. IsNameTableOf (names_by us t) k)
            (λ t k. IsNameTableOf (names_by (us ++ u ∷ []) t) k) u.0 old.tables.items was is old.count here
            (λ t e h. subst (λ ns. IsNameTableOf ns is) (sym (name_noted us u t e)) (adds (names_by us t) h))
            (λ t other k h. subst (λ ns. IsNameTableOf ns k) (sym (others_noted us u t other)) h)
            are.names t k (subst (λ ts. slice_get ts (order_of t) ≡ Some k) moved at);
      }

  pub noted_number : (number kept : ℕ) → IsNumberIn was u.1 number → (number ≤ 65535 → kept ≡ number) → HasNames u.0
      → IsNumbered old (u ∷ []) (λ ns. number_among (ns u.0) u.1) kept
  noted_number number kept numbered keeps named us are within =
      let there : slice_get old.tables.items (order_of u.0) ≡ Some was =
      slice_get-get_or old.tables.items (order_of u.0) was (omega (arith, old.count, place_within u.0))
      ∙ ap Some (sym here) in
      let after : names_by (us ++ u ∷ []) u.0 ≡ with_name (names_by us u.0) u.1 = name_noted us u u.0 refl in
      let fits : length (with_name (names_by us u.0) u.1) ≤ was.limit =
      omega (arith, within u.0 named, are.limits u.0 was there, ap length after) in
      let at : number ≡ number_among (names_by (us ++ u ∷ []) u.0) u.1 =
      numbered (names_by us u.0) (are.names u.0 was there) fits ∙ ap (λ ns. number_among ns u.1) (sym after) in
      keeps
      (omega (
        arith,
        at,
        prefix_len-le-length (λ m. not (bytes_eq u.1 m)) (names_by (us ++ u ∷ []) u.0),
        within u.0 named,
        limits_few u.0,
      ))
      ∙ at
