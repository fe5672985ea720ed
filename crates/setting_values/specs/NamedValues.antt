-- What it means that every name in a value is well formed, and that no list in it is longer than its limit.
use Rattle.std.specs.{Prelude.{ℕ, ◌≤◌, List, [], length, IfSome}, List.{All, AllByRecursion}}
use Rattle.mpf_values.specs.Names.{IsName}
use Rattle.setting_values.specs.Values.{WrittenName, HandledEvent, Plain, name, event, KeyedValues, Value, one, names}
use Rattle.setting_values.specs.{Values.{posts, events, steps, maps, by_key}, KeyRules.field_default}
use Rattle.setting_values.specs.Kinds.{Field, Kind, map_list, named_maps, keyed_maps}

-- ---- names

-- the name of a handled event is one, and so is that of the variable in its condition
pub record IsNamedHandled (h : HandledEvent) : Type 0 where
  pub name : IsName h.event.name
  pub variable : IfSome h.event.condition (λ c. IsName c.variable)

abbrev pub IsNamedPlain : Plain → Type 0
IsNamedPlain (name w) = IsName w.text
IsNamedPlain (event h) = IsNamedHandled h
IsNamedPlain _ = Unit {0}

abbrev pub AreNames : List WrittenName → Type 0
AreNames = AllByRecursion (λ w. IsName w.text)

abbrev pub AreNamedEvents : List HandledEvent → Type 0
AreNamedEvents = AllByRecursion IsNamedHandled

abbrev pub AreNamedPlains : List Plain → Type 0
AreNamedPlains = AllByRecursion IsNamedPlain

abbrev pub IsNamedKeyed : KeyedValues → Type 0
IsNamedKeyed k = IsName k.name.text × AreNamedPlains k.values

abbrev pub IsNamedValue : Value → Type 0
IsNamedValue (one x) = IsNamedPlain x
IsNamedValue (names xs) = AreNames xs
IsNamedValue (posts xs) = AreNames xs
IsNamedValue (events hs) = AreNamedEvents hs
IsNamedValue (steps ss) = AllByRecursion AreNamedEvents ss
IsNamedValue (maps ms) = AllByRecursion (λ m. AreNamedPlains m.values) ms
IsNamedValue (by_key ks) = AllByRecursion IsNamedKeyed ks

-- what holds by default in a table is named too
abbrev pub AreNamedFields : List Field → Type 0
AreNamedFields = AllByRecursion (λ f. IsNamedPlain (field_default f))

abbrev pub IsNamedKind : Kind → Type 0
IsNamedKind (map_list table others bounds) = AreNamedFields table
IsNamedKind (named_maps table others bounds) = AreNamedFields table
IsNamedKind (keyed_maps table place short) = AreNamedFields table
IsNamedKind _ = Unit {0}

-- ---- limits

-- how many items the list has that a value is; a map of names counts as one
abbrev pub item_count : Value → ℕ
item_count (names xs) = length xs
item_count (posts xs) = length xs
item_count (events hs) = length hs
item_count (steps ss) = length ss
item_count (maps ms) = length ms
item_count (by_key ks) = length ks
item_count _ = 0

-- the lists in that list
abbrev pub steps_in : Value → List (List HandledEvent)
steps_in (steps ss) = ss
steps_in _ = []

-- no list in a value has more items than this
abbrev pub IsShortValue : ℕ → Value → Type 0
IsShortValue longest v = (item_count v ≤ longest) × All (λ hs. length hs ≤ longest) (steps_in v)
