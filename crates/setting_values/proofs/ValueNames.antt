-- Every name in a value is one, and no list in it is longer than its limit.
use Rattle.std.proofs.Common.{rules, ◌≡◌, ℕ, zero, suc, ◌≤◌, Bool, false, List, [], ◌∷◌, length, map, set, Option, Some}
use Rattle.std.proofs.Common.{None, IfSome, refl, sym, ap, subst, arith}
use Rattle.std.specs.{List.{All, AllByRecursion, AllZip}, Str.bytes_eq}
use Rattle.std.proofs.lemmas.List.Elements.{All-nil, All-from_recursion}
use Rattle.yaml_subset.specs.{Node.{Node, Pair}, View.line_of}
use Rattle.mpf_values.specs.{Names.IsName, Events.{EventCondition, IsUnder}, Lists.Item}
use Rattle.setting_values.specs.Values.{WrittenName, HandledEvent, Plain, KeyedValues, Value}
use Rattle.setting_values.specs.Kinds.{Scalar, Bounds, Field, Kind, single, name_list, post_list, event_list, step_list}
use Rattle.setting_values.specs.{Kinds.{map_list, named_maps, keyed_maps}, ValueOf.IsValue}
use Rattle.setting_values.specs.KeyRules.{found_in, field_key, field_default}
use Rattle.setting_values.specs.ValueOf.{IsScalar, IsPlain, AreListed, AreNodes, IsWritten, IsHandled, OverwritesAt}
use Rattle.setting_values.specs.ValueOf.{IsOverwritten, IsField, pass, AreFields, IsKeyedRow, IsKeyed, AreKeyed, IsStep}
use Rattle.setting_values.specs.NamedValues.{IsNamedPlain, AreNames, AreNamedEvents, AreNamedPlains, IsNamedKeyed}
use Rattle.setting_values.specs.NamedValues.{IsNamedValue, AreNamedFields, IsNamedKind, IsShortValue}

-- ---- lists

set_all : {V : Type 0} (P : V → Type 0) (xs : List V) (i : ℕ) (v : V) → AllByRecursion P xs → P v
    → AllByRecursion P (set xs i v)
set_all P [] zero v h p = tt
set_all P [] (suc i) v h p = tt
set_all P (x ∷ xs) zero v h p = (p, h.1)
set_all P (x ∷ xs) (suc i) v h p = (h.0, set_all P xs i v h.1 p)

pub all_zip : {A B : Type 0} (R : A → B → Type 0) (P : B → Type 0) → ((x : A) (y : B) → R x y → P y)
    → (xs : List A) (ys : List B) → AllZip R xs ys → AllByRecursion P ys
all_zip R P so [] [] each = tt
all_zip R P so [] (y ∷ ys) each = absurd each
all_zip R P so (x ∷ xs) [] each = absurd each
all_zip R P so (x ∷ xs) (y ∷ ys) each = (so x y each.0, all_zip R P so xs ys each.1)

same_length : {A B : Type 0} (R : A → B → Type 0) (xs : List A) (ys : List B) → AllZip R xs ys → length xs ≡ length ys
same_length R [] [] each = refl
same_length R [] (y ∷ ys) each = absurd each
same_length R (x ∷ xs) [] each = absurd each
same_length R (x ∷ xs) (y ∷ ys) each = ap suc (same_length R xs ys each.1)

pub all_map : {A B : Type 0} (P : B → Type 0) (f : A → B) (xs : List A) → AllByRecursion (λ x. P (f x)) xs
    → AllByRecursion P (map f xs)
all_map P f [] h = tt
all_map P f (x ∷ xs) h = (h.0, all_map P f xs h.1)

-- what holds of all rows of a table holds of the one that is found
module _ {T : Type 0} (key_of : T → List ℕ) (Q : T → Type 0) (key : List ℕ) where
  abbrev Holds : Option (ℕ × T) → Type 0
  Holds None = Unit {0}
  Holds (Some p) = Q p.1

  found_by : (s : T) (ss : List T) (b : Bool) → bytes_eq (key_of s) key ≡ b → Q s → Holds (found_in key_of key ss)
      → Holds (found_in key_of key (s ∷ ss))
  found_by s ss x3 e q h = search rules

  holds_found : (table : List T) → AllByRecursion Q table → Holds (found_in key_of key table)
  holds_found [] h = tt
  holds_found (s ∷ ss) h = found_by s ss (bytes_eq (key_of s) key) refl h.0 (holds_found ss h.1)

-- ---- rows

module _ {T V : Type 0} (key_of : T → List ℕ) (IsOf : T → Node → V → Type 0) (passes : List ℕ → Bool) (Q : T → Type 0)
    (P : V → Type 0) (so : (t : T) (node : Node) (v : V) → Q t → IsOf t node v → P v) where
  overwrites_all : (b : Bool) (p : Pair) (row next : List V) (o : Option (ℕ × T)) → Holds key_of Q p.key o
      → OverwritesAt IsOf b p row next o → AllByRecursion P row → AllByRecursion P next
  overwrites_all b p row next x5 q h all = search (rules, set_all)

  pub overwritten_all : (table : List T) (ps : List Pair) (row made : List V) → AllByRecursion Q table
      → IsOverwritten key_of IsOf passes table ps row made → AllByRecursion P row → AllByRecursion P made
  overwritten_all table [] row made q h all = subst (AllByRecursion P) (sym h) all
  overwritten_all table (p ∷ ps) row made q h all =
      overwritten_all table ps h.0 made q h.2
      (overwrites_all (passes p.key) p row h.0 (found_in key_of p.key table) (holds_found key_of Q p.key table q)
      h.1 all)

-- ---- names in values

variable_named : (text : List ℕ) (o : Option EventCondition) → IsUnder text o → IfSome o (λ c. IsName c.variable)
variable_named text x2 h = search rules

scalar_named : (kind : Scalar) (line : ℕ) (text : List ℕ) (v : Plain) → IsScalar kind line text v → IsNamedPlain v
scalar_named x1 line text v h = search rules

plain_named : (kind : Scalar) (node : Node) (v : Plain) → IsPlain kind node v → IsNamedPlain v
plain_named kind node v h = scalar_named kind (line_of node) h.0 v h.2

pub written_named : (bounds : Bounds) (longest : ℕ) (node : Node) (xs : List WrittenName)
    → AreListed IsWritten bounds longest node xs → AreNames xs
written_named bounds longest node xs h = search (rules, all_zip)

handled_named : (bounds : Bounds) (longest : ℕ) (node : Node) (xs : List HandledEvent)
    → AreListed IsHandled bounds longest node xs → AreNamedEvents xs
handled_named bounds longest node xs h = search (rules, all_zip, variable_named)

row_named : (table : List Field) (others : Bool) (ps : List Pair) (row : List Plain) → AreNamedFields table
    → IsOverwritten field_key IsField (pass others) table ps (map field_default table) row → AreNamedPlains row
row_named table others ps row q h =
    overwritten_all field_key IsField (pass others) (λ f. IsNamedPlain (field_default f)) IsNamedPlain
    (λ f node v _ k. plain_named f.kind node v k) table ps (map field_default table) row q h
    (all_map IsNamedPlain field_default table q)

keyed_row_named : (table : List Field) (place : ℕ) (short : Scalar) (node : Node) (row : List Plain)
    (o : Option (List ℕ)) → AreNamedFields table → IsKeyedRow table place short node row o → AreNamedPlains row
keyed_row_named table place short node row (Some text) q h =
    subst AreNamedPlains (sym h.2) (set_all IsNamedPlain (map field_default table) place h.0
    (all_map IsNamedPlain field_default table q) (plain_named short node h.0 h.1))
keyed_row_named table place short node row None q h = row_named table false h.pairs row q h.overwritten

keyed_named : (table : List Field) (place : ℕ) (short : Scalar) → AreNamedFields table → (p : Pair) (k : KeyedValues)
    → IsKeyed table place short p k → IsNamedKeyed k
keyed_named table place short q p k h = search (rules, keyed_row_named)

pub value_named : (longest : ℕ) (kind : Kind) (node : Node) (v : Value) → IsNamedKind kind → IsValue longest kind node v
    → IsNamedValue v
value_named longest (single kind) node v q h = subst IsNamedValue (sym h.2) (plain_named kind node h.0 h.1)
value_named longest (name_list bounds) node v q h =
    subst IsNamedValue (sym h.2) (written_named bounds longest node h.0 h.1)
value_named longest (post_list bounds) node v q h =
    subst IsNamedValue (sym h.2) (written_named bounds longest node h.0 h.1)
value_named longest (event_list bounds) node v q h =
    subst IsNamedValue (sym h.2) (handled_named bounds longest node h.0 h.1)
value_named longest (step_list bounds) node v q h = search (rules, all_zip, handled_named)
value_named longest (map_list table others bounds) node v q h = search (rules, all_zip, row_named)
value_named longest (named_maps table others bounds) node v q h = search (rules, all_zip, row_named)
value_named longest (keyed_maps table place short) node v q h =
    subst IsNamedValue (sym h.2) (all_zip (IsKeyed table place short) IsNamedKeyed (keyed_named table place short q)
    h.1.pairs h.0 h.1.each)

-- ---- limits of values

pub listed_short : {B : Type 0} (IsOne : Item → B → Type 0) (bounds : Bounds) (longest : ℕ) (node : Node) (xs : List B)
    → AreListed IsOne bounds longest node xs → length xs ≤ longest
listed_short IsOne bounds longest node xs h = rw (sym (same_length IsOne h.items xs h.each)) h.few

nodes_short : {B : Type 0} (IsOne : Node → B → Type 0) (bounds : Bounds) (longest : ℕ) (node : Node) (xs : List B)
    → AreNodes IsOne bounds longest node xs → length xs ≤ longest
nodes_short IsOne bounds longest node xs h = rw (sym (same_length IsOne h.nodes xs h.each)) h.few

keyed_short : (table : List Field) (place : ℕ) (short : Scalar) (longest : ℕ) (node : Node) (ks : List KeyedValues)
    → AreKeyed table place short longest node ks → length ks ≤ longest
keyed_short table place short longest node ks h =
    rw (sym (same_length (IsKeyed table place short) h.pairs ks h.each)) h.few

-- a list that has no lists in it
abbrev Few : ℕ → ℕ → Type 0
Few longest n = (n ≤ longest) × All (λ (hs : List HandledEvent). length hs ≤ longest) []

pub few_items : (longest : ℕ) {n : ℕ} → n ≤ longest → Few longest n
few_items longest few = (few, All-nil (λ (hs : List HandledEvent). length hs ≤ longest))

pub no_items : (longest : ℕ) → (0 ≤ longest) × All (λ (hs : List HandledEvent). length hs ≤ longest) []
no_items longest = let none : 0 ≤ longest = omega arith in few_items longest none

pub value_short : (longest : ℕ) (kind : Kind) (node : Node) (v : Value) → IsValue longest kind node v
    → IsShortValue longest v
value_short longest (single kind) node v h = subst (IsShortValue longest) (sym h.2) (no_items longest)
value_short longest (name_list bounds) node v h =
    subst (IsShortValue longest) (sym h.2) (few_items longest (listed_short IsWritten bounds longest node h.0 h.1))
value_short longest (post_list bounds) node v h =
    subst (IsShortValue longest) (sym h.2) (few_items longest (listed_short IsWritten bounds longest node h.0 h.1))
value_short longest (event_list bounds) node v h =
    subst (IsShortValue longest) (sym h.2) (few_items longest (listed_short IsHandled bounds longest node h.0 h.1))
value_short longest (step_list bounds) node v h =
    let few : (hs : List HandledEvent) → Type 0 = λ hs. length hs ≤ longest in
    let each = all_zip (IsStep longest) few (listed_short IsHandled _ longest) h.1.nodes h.0 h.1.each in
    subst (IsShortValue longest) (sym h.2)
    (nodes_short (IsStep longest) bounds longest node h.0 h.1, All-from_recursion few h.0 each)
value_short longest (map_list table others bounds) node v h =
    subst (IsShortValue longest) (sym h.2)
    (few_items longest (nodes_short (AreFields table others) bounds longest node h.0 h.1))
value_short longest (named_maps table others bounds) node v h =
    subst (IsShortValue longest) (sym h.3)
    (few_items longest (nodes_short (AreFields table others) bounds longest node h.0 h.1))
value_short longest (keyed_maps table place short) node v h =
    subst (IsShortValue longest) (sym h.2) (few_items longest (keyed_short table place short longest node h.0 h.1))
