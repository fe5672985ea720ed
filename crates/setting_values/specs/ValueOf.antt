-- What the value of a setting is, by its kind, and what the row of a mapping is, by its table, however they are read.
use Rattle.std.specs.Prelude.{◌≡◌, ◌≢◌, ℕ, ℤ, ◌≤◌, Bool, true, false, ◌&&◌, int_le, List, [], ◌∷◌, length, map, Option}
use Rattle.std.specs.{Prelude.{Some, None, set, ◌⊎◌}, List.{AllZip, AllPairs}}
use Rattle.yaml_subset.specs.{Node.{Node, Pair}, View.{line_of, text_in}}
use Rattle.mpf_values.specs.{Booleans.IsBoolean, Integers.IsInteger, Powers.IsPower, Lists.{Item, IsList}}
use Rattle.mpf_values.specs.{Times.IsTime, Names.IsName, Events.{Event, IsEvent}}
use Rattle.setting_values.specs.Values.{WrittenName, HandledEvent, Plain, flag, number, time, power, word, name, event}
use Rattle.setting_values.specs.Values.{Fields, KeyedValues, Value, one, names, posts, events, steps, maps, by_key}
use Rattle.setting_values.specs.{Values.{written_at, handled_at}, Below.{pairs_below, nodes_below}}
use Rattle.setting_values.specs.Kinds.{Scalar, a_flag, number_within, time_within, a_power, one_of, a_name, an_event}
use Rattle.setting_values.specs.Kinds.{Bounds, at_least, fits, Field, Kind, single, name_list, post_list, event_list}
use Rattle.setting_values.specs.Kinds.{step_list, map_list, named_maps, keyed_maps}
use Rattle.setting_values.specs.KeyRules.{found_in, field_key, field_default, field_lacks}

-- ---- texts

abbrev pub within : ℤ → ℤ → ℤ → Bool
within least greatest n = int_le least n && int_le n greatest

-- one of these words
abbrev pub IsOneOf : List (List ℕ) → List ℕ → Type 0
IsOneOf [] w = ⊥
IsOneOf (x ∷ xs) w = (w ≡ x) ⊎ IsOneOf xs w

-- what a text at a line says
abbrev pub IsScalar : Scalar → ℕ → List ℕ → Plain → Type 0
IsScalar a_flag line text v = (b : Bool) × IsBoolean text b × (v ≡ flag b)
IsScalar (number_within least greatest) line text v =
    (n : ℤ) × IsInteger text n × (within least greatest n ≡ true) × (v ≡ number n)
IsScalar (time_within least greatest) line text v =
    (ms : ℕ) × IsTime text ms × (least ≤ ms) × (ms ≤ greatest) × (v ≡ time ms)
IsScalar a_power line text v = (n : ℕ) × IsPower text n × (v ≡ power n)
IsScalar (one_of words) line text v = IsOneOf words text × (v ≡ word text)
IsScalar a_name line text v = IsName text × (v ≡ name (written_at line text))
IsScalar an_event line text v = (e : Event) × IsEvent text e × (v ≡ event (handled_at line e))

-- what a node says that is a text
abbrev pub IsPlain : Scalar → Node → Plain → Type 0
IsPlain kind node v = (text : List ℕ) × (text_in node ≡ Some text) × IsScalar kind (line_of node) text v

-- ---- lists

-- What the items of a list are, of which there are at most so many, and as many as its bounds say.
pub record AreListed {B : Type 0} (IsOne : Item → B → Type 0) (bounds : Bounds) (longest : ℕ) (node : Node)
    (ys : List B) : Type 0 where
  pub items : List Item
  pub list : IsList node items
  pub few : length items ≤ longest
  pub fit : fits bounds (length items) ≡ true
  pub each : AllZip IsOne items ys

-- What the nodes of a YAML list are, of which there are at most so many, and as many as its bounds say.
pub record AreNodes {B : Type 0} (IsOne : Node → B → Type 0) (bounds : Bounds) (longest : ℕ) (node : Node)
    (ys : List B) : Type 0 where
  pub nodes : List Node
  pub list : nodes_below node ≡ Some nodes
  pub few : length nodes ≤ longest
  pub fit : fits bounds (length nodes) ≡ true
  pub each : AllZip IsOne nodes ys

abbrev pub IsWritten : Item → WrittenName → Type 0
IsWritten item w = IsName item.text × (w ≡ written_at item.line item.text)

abbrev pub IsHandled : Item → HandledEvent → Type 0
IsHandled item h = (e : Event) × IsEvent item.text e × (h ≡ handled_at item.line e)

-- ---- rows by a table

-- A row, and what a pair makes of it: if the table has its key, its value stands at that place; if not, it is one that
-- is ignored.
abbrev pub OverwritesAt : {T V : Type 0} → (T → Node → V → Type 0) → Bool → Pair → List V → List V → Option (ℕ × T)
    → Type 0
OverwritesAt {T} {V} IsOf passes p row next (Some numbered_kind) =
    (v : V) × IsOf numbered_kind.1 p.value v × (next ≡ set row numbered_kind.0 v)
OverwritesAt IsOf passes p row next None = (passes ≡ true) × (next ≡ row)

-- a row, and what pairs make of it, one after the other
abbrev pub IsOverwritten : {T V : Type 0} → (T → List ℕ) → (T → Node → V → Type 0) → (List ℕ → Bool) → List T
    → List Pair → List V → List V → Type 0
IsOverwritten key_of IsOf passes table [] row made = made ≡ row
IsOverwritten {T} {V} key_of IsOf passes table (p ∷ ps) row made =
    (next : List V) × OverwritesAt IsOf (passes p.key) p row next (found_in key_of p.key table)
    × IsOverwritten key_of IsOf passes table ps next made

-- no setting that is required lacks its value
abbrev pub IsWhole : {T V : Type 0} → (T → V → Bool) → List T → List V → Type 0
IsWhole lacks = AllZip (λ s v. lacks s v ≡ false)

-- The row of a mapping by a table: what holds if nothing is written, overwritten by the pairs; nothing that is required
-- is lacking.
pub record IsRow {T V : Type 0} (key_of : T → List ℕ) (IsOf : T → Node → V → Type 0) (passes : List ℕ → Bool)
    (default_of : T → V) (lacks : T → V → Bool)
    (table : List T) (node : Node) (row : List V) : Type 0 where
  pub pairs : List Pair
  pub has : pairs_below node ≡ Some pairs
  pub overwritten : IsOverwritten key_of IsOf passes table pairs (map default_of table) row
  pub whole : IsWhole lacks table row

-- ---- maps

abbrev pub IsField : Field → Node → Plain → Type 0
IsField f node v = IsPlain f.kind node v

-- whether other keys are ignored, whatever they are
abbrev pub pass : Bool → List ℕ → Bool
pass others key = others

-- the row of a map by its table
abbrev pub IsFieldRow : List Field → Bool → Node → List Plain → Type 0
IsFieldRow table others = IsRow field_key IsField (pass others) field_default field_lacks table

-- a map in a list
pub record AreFields (table : List Field) (others : Bool) (node : Node) (m : Fields) : Type 0 where
  pub line : m.line ≡ line_of node
  pub row : IsFieldRow table others node m.values

-- the name of a map whose first value is one; the empty text if it is none
abbrev pub name_first : List Plain → List ℕ
name_first (name w ∷ xs) = w.text
name_first _ = []

abbrev pub own_name : Fields → List ℕ
own_name m = name_first m.values

-- no two maps have the same name
abbrev pub HaveOwnNames : List Fields → Type 0
HaveOwnNames ms = AllPairs (λ x y. x ≢ y) (map own_name ms)

-- one value alone, at its place among those that hold if nothing is written; or the row of a map
abbrev pub IsKeyedRow : List Field → ℕ → Scalar → Node → List Plain → Option (List ℕ) → Type 0
IsKeyedRow table place short node row (Some text) =
    (v : Plain) × IsPlain short node v × (row ≡ set (map field_default table) place v)
IsKeyedRow table place short node row None = IsFieldRow table false node row

-- a name, and the values that belong to it
pub record IsKeyed (table : List Field) (place : ℕ) (short : Scalar) (p : Pair) (k : KeyedValues) : Type 0 where
  pub is_name : IsName p.key
  pub name : k.name ≡ written_at p.line p.key
  pub row : IsKeyedRow table place short p.value k.values (text_in p.value)

-- The names of a map, of which there are at most so many, with the values that belong to each.
pub record AreKeyed (table : List Field) (place : ℕ) (short : Scalar) (longest : ℕ) (node : Node)
    (ks : List KeyedValues) : Type 0 where
  pub pairs : List Pair
  pub has : pairs_below node ≡ Some pairs
  pub few : length pairs ≤ longest
  pub each : AllZip (IsKeyed table place short) pairs ks

-- ---- settings

-- a step: a list of handled events that is not empty
abbrev pub IsStep : ℕ → Node → List HandledEvent → Type 0
IsStep longest = AreListed IsHandled (at_least 1) longest

-- what a node says as the value of a setting of a kind, with at most so many items in a list; a map of names counts as
-- one
abbrev pub IsValue : ℕ → Kind → Node → Value → Type 0
IsValue longest (single kind) node v = (x : Plain) × IsPlain kind node x × (v ≡ one x)
IsValue longest (name_list bounds) node v =
    (xs : List WrittenName) × AreListed IsWritten bounds longest node xs × (v ≡ names xs)
IsValue longest (post_list bounds) node v =
    (xs : List WrittenName) × AreListed IsWritten bounds longest node xs × (v ≡ posts xs)
IsValue longest (event_list bounds) node v =
    (xs : List HandledEvent) × AreListed IsHandled bounds longest node xs × (v ≡ events xs)
IsValue longest (step_list bounds) node v =
    (xs : List (List HandledEvent)) × AreNodes (IsStep longest) bounds longest node xs × (v ≡ steps xs)
IsValue longest (map_list table others bounds) node v =
    (xs : List Fields) × AreNodes (AreFields table others) bounds longest node xs × (v ≡ maps xs)
IsValue longest (named_maps table others bounds) node v =
    (xs : List Fields) × AreNodes (AreFields table others) bounds longest node xs × HaveOwnNames xs × (v ≡ maps xs)
IsValue longest (keyed_maps table place short) node v =
    (xs : List KeyedValues) × AreKeyed table place short longest node xs × (v ≡ by_key xs)
