-- Reading a value by its kind, from its first item to its last, with the first fault that is met.
pub use Rattle.yaml_bytes.specs.Results.{◌>>=◌}
use Rattle.std.specs.Prelude.{◌≡◌, ℕ, ◌<◌, nat_lt, nat_le, ◌==◌, ◌&&◌, not, Bool, true, false, if◌then◌else◌, List, []}
use Rattle.std.specs.Prelude.{◌∷◌, length, map, filter, Option, Some, None, Result, Ok, set, ◌⊎◌}
use Rattle.std.specs.{List.list_any, Result.is_ok, Str.bytes_eq}
use Rattle.yaml_subset.specs.{Node.{Node, Pair}, View.{line_of, text_in, items_in}}
use Rattle.mpf_values.specs.Lists.{Item}
use Rattle.mpf_values.specs.Reading.{is_name, list_at, boolean_at, integer_at, time_at, power_at, event_at}
use Rattle.config_faults.specs.declared.fault.BundleFaultKind.TheVariants.{UnknownSetting, BadValue, Missing, Limit}
use Rattle.setting_values.specs.Values.{WrittenName, HandledEvent, Plain, flag, number, time, power, word, name, event}
use Rattle.setting_values.specs.Values.{Fields, KeyedValues, Value, one, names, posts, events, steps, maps, by_key}
use Rattle.setting_values.specs.{Values.{written_at, handled_at}, Below.{pairs_below, nodes_below}}
use Rattle.config_faults.specs.Faults.{RowsFault, Spot, refuse}
use Rattle.setting_values.specs.Kinds.{Scalar, a_flag, number_within, time_within, a_power, one_of, a_name, an_event}
use Rattle.setting_values.specs.Kinds.{Bounds, at_least, fits, Field, Kind, single, name_list, post_list, event_list}
use Rattle.setting_values.specs.{Kinds.{step_list, map_list, named_maps, keyed_maps}, ValueOf.{within, pass, own_name}}
use Rattle.setting_values.specs.KeyRules.{found_in, field_key, field_default, field_lacks}

-- the key of an entry
abbrev pub key_spot : List ℕ → Pair → Spot
key_spot text entry = record { text = text; line = entry.line; key = entry.key }

abbrev pub expect : {A : Type 0} → Spot → Option A → Result A RowsFault
expect spot (Some x) = Ok x
expect spot None = refuse BadValue spot

-- what f gives for each, or the first fault
unfoldable pub each_read : {A B : Type 0} → (A → Result B RowsFault) → List A → Result (List B) RowsFault
each_read f [] = Ok []
each_read f (x ∷ xs) = f x >>= λ y. each_read f xs >>= λ ys. Ok (y ∷ ys)

-- ---- texts

abbrev pub give : {A B : Type 0} → (A → B) → Option A → Option B
give f (Some x) = Some (f x)
give f None = None

abbrev pub keep : {A : Type 0} → (A → Bool) → Option A → Option A
keep p (Some x) = if p x then Some x else None
keep p None = None

unfoldable pub is_one_of : List (List ℕ) → List ℕ → Bool
is_one_of words w = list_any (λ x. bytes_eq x w) words

-- what a text at a line says
unfoldable pub scalar_of : Scalar → ℕ → List ℕ → Option Plain
scalar_of a_flag line text = give flag (boolean_at text)
scalar_of (number_within least greatest) line text = give number (keep (within least greatest) (integer_at text))
scalar_of (time_within least greatest) line text =
    give time (keep (λ ms. nat_le least ms && nat_le ms greatest) (time_at text))
scalar_of a_power line text = give power (power_at text)
scalar_of (one_of words) line text = if is_one_of words text then Some (word text) else None
scalar_of a_name line text = if is_name text then Some (name (written_at line text)) else None
scalar_of an_event line text = give (λ e. event (handled_at line e)) (event_at text)

unfoldable pub plain_at : Scalar → Spot → Node → Result Plain RowsFault
plain_at kind spot node = expect spot (text_in node) >>= λ text. expect spot (scalar_of kind (line_of node) text)

-- ---- lists

abbrev pub is_empty : Option (List ℕ) → Bool
is_empty (Some text) = length text == 0
is_empty None = false

unfoldable pub written_in : Spot → Item → Result WrittenName RowsFault
written_in spot item = if is_name item.text then Ok (written_at item.line item.text) else refuse BadValue spot

unfoldable pub handled_in : Spot → Item → Result HandledEvent RowsFault
handled_in spot item = expect spot (give (handled_at item.line) (event_at item.text))

-- the most items of a list of a setting
abbrev pub most_items : ℕ
most_items = 1024

-- a list may have so many items: no more than the most, and as many as its bounds say
unfoldable pub count_at : ℕ → Bounds → Spot → ℕ → Result (Unit {0}) RowsFault
count_at most bounds spot n = if nat_lt most n then refuse Limit spot else
    (if fits bounds n then Ok tt else refuse BadValue spot)

-- whether a node of a YAML list counts as an item, good or bad: all do but the empty text
unfoldable pub counts : Node → Bool
counts node = not (is_empty (text_in node))

-- how many items a YAML list has, good and bad
abbrev pub count_of : Option (List Node) → ℕ
count_of (Some nodes) = length (filter counts nodes)
count_of None = 0

-- the items of a list; it is too long first of all, whatever its items are
unfoldable pub list_items_at : ℕ → Bounds → Spot → Node → Result (List Item) RowsFault
list_items_at most bounds spot node =
    if nat_lt most (count_of (items_in node)) then refuse Limit spot
    else (expect spot (list_at node) >>= λ items. count_at most bounds spot (length items) >>= λ _. Ok items)

-- what f gives for each
abbrev pub listed_at : {B : Type 0} → (Spot → Item → Result B RowsFault) → ℕ → Bounds → Spot → Node
    → Result (List B) RowsFault
listed_at f most bounds spot node = list_items_at most bounds spot node >>= λ items. each_read (f spot) items

-- the nodes of a YAML list
unfoldable pub list_nodes_at : Bounds → Spot → Node → Result (List Node) RowsFault
list_nodes_at bounds spot node = expect spot (nodes_below node) >>= λ nodes. count_at most_items bounds spot
    (length nodes) >>= λ _. Ok nodes

-- what f gives for each
abbrev pub nodes_at : {B : Type 0} → (Spot → Node → Result B RowsFault) → Bounds → Spot → Node
    → Result (List B) RowsFault
nodes_at f bounds spot node = list_nodes_at bounds spot node >>= λ nodes. each_read (f spot) nodes

-- ---- rows by a table

-- a row, overwritten by a pair that stands at this place in the table, or at none
abbrev pub put_at : {T V : Type 0} → (T → Spot → Node → Result V RowsFault) → Bool → Spot → Node → List V
    → Option (ℕ × T) → Result (List V) RowsFault
put_at value_at passes spot node row (Some numbered_kind) =
    value_at numbered_kind.1 spot node >>= λ v. Ok (set row numbered_kind.0 v)
put_at value_at passes spot node row None = if passes then Ok row else refuse UnknownSetting spot

-- a row, overwritten by pairs, one after the other
abbrev pub overwritten_at : {T V : Type 0} → (T → List ℕ) → (T → Spot → Node → Result V RowsFault) → (List ℕ → Bool)
    → List ℕ → List T → List Pair → List V → Result (List V) RowsFault
overwritten_at key_of value_at passes text table [] row = Ok row
overwritten_at key_of value_at passes text table (p ∷ ps) row =
    put_at value_at (passes p.key) (key_spot text p) p.value row (found_in key_of p.key table) >>= λ next.
    overwritten_at key_of value_at passes text table ps next

-- the key of the first setting that lacks its value
abbrev pub lacking : {T V : Type 0} → (T → List ℕ) → (T → V → Bool) → List T → List V → Option (List ℕ)
lacking key_of lacks (s ∷ ss) (v ∷ vs) = if lacks s v then Some (key_of s) else lacking key_of lacks ss vs
lacking key_of lacks _ _ = None

abbrev pub whole_from : {V : Type 0} → Spot → List V → Option (List ℕ) → Result (List V) RowsFault
whole_from spot row None = Ok row
whole_from spot row (Some key) = refuse Missing (record { text = spot.text; line = spot.line; key = key })

-- the row of pairs by a table
unfoldable pub row_at : {T V : Type 0} → (T → List ℕ) → (T → Spot → Node → Result V RowsFault) → (List ℕ → Bool)
    → (T → V) → (T → V → Bool) → Spot → List T → List Pair → Result (List V) RowsFault
row_at key_of value_at passes default_of lacks spot table pairs =
    overwritten_at key_of value_at passes spot.text table pairs (map default_of table) >>= λ row. whole_from spot row
    (lacking key_of lacks table row)

-- ---- maps

abbrev pub field_at : Field → Spot → Node → Result Plain RowsFault
field_at f = plain_at f.kind

abbrev pub fields_row_at : Bool → Spot → List Field → List Pair → Result (List Plain) RowsFault
fields_row_at others = row_at field_key field_at (pass others) field_default field_lacks

-- a map in a list: what it lacks is missing at its own line, and a node that is no map is a fault of the list
unfoldable pub fields_at : List Field → Bool → Spot → Node → Result Fields RowsFault
fields_at table others spot node =
    expect spot (pairs_below node) >>= λ pairs. fields_row_at others
    (record { text = spot.text; line = line_of node; key = spot.key }) table pairs
    >>= λ row. Ok (record { line = line_of node; values = row })

-- no name stands twice
abbrev pub are_apart : List (List ℕ) → Bool
are_apart [] = true
are_apart (k ∷ ks) = not (list_any (bytes_eq k) ks) && are_apart ks

-- maps of which each has a name of its own; the names are compared when all maps are read
unfoldable pub named_maps_at : List Field → Bool → Bounds → Spot → Node → Result (List Fields) RowsFault
named_maps_at table others bounds spot node =
    nodes_at (fields_at table others) bounds spot node >>= λ ms. if are_apart (map own_name ms) then Ok ms else refuse
    BadValue spot

-- the values that belong to a name: one text alone, or a map
abbrev pub keyed_row_at : List Field → ℕ → Scalar → Spot → Node → Option (List ℕ) → Result (List Plain) RowsFault
keyed_row_at table place short spot node (Some text) =
    plain_at short spot node >>= λ v. Ok (set (map field_default table) place v)
keyed_row_at table place short spot node None =
    expect spot (pairs_below node) >>= λ pairs. fields_row_at false spot table pairs

unfoldable pub keyed_at : List ℕ → List Field → ℕ → Scalar → Pair → Result KeyedValues RowsFault
keyed_at text table place short p =
    if is_name p.key
    then (keyed_row_at table place short (key_spot text p) p.value (text_in p.value) >>= λ row. Ok
    (record { name = written_at p.line p.key; values = row }))
    else refuse BadValue (key_spot text p)

-- the pairs of a map that counts as a list: it is too long before any of them is looked at
unfoldable pub few_pairs_at : Spot → Node → Result (List Pair) RowsFault
few_pairs_at spot node = expect spot (pairs_below node) >>= λ pairs. count_at most_items (at_least 0) spot
    (length pairs) >>= λ _. Ok pairs

unfoldable pub keyed_list_at : List Field → ℕ → Scalar → Spot → Node → Result (List KeyedValues) RowsFault
keyed_list_at table place short spot node =
    few_pairs_at spot node >>= λ pairs. each_read (keyed_at spot.text table place short) pairs

-- ---- settings

unfoldable pub value_at : Kind → Spot → Node → Result Value RowsFault
value_at (single kind) spot node = plain_at kind spot node >>= λ x. Ok (one x)
value_at (name_list bounds) spot node = listed_at written_in most_items bounds spot node >>= λ xs. Ok (names xs)
value_at (post_list bounds) spot node = listed_at written_in most_items bounds spot node >>= λ xs. Ok (posts xs)
value_at (event_list bounds) spot node = listed_at handled_in most_items bounds spot node >>= λ xs. Ok (events xs)
value_at (step_list bounds) spot node = nodes_at (listed_at handled_in most_items (at_least 1)) bounds spot node >>=
    λ xs. Ok (steps xs)
value_at (map_list table others bounds) spot node =
    nodes_at (fields_at table others) bounds spot node >>= λ xs. Ok (maps xs)
value_at (named_maps table others bounds) spot node = named_maps_at table others bounds spot node >>= λ xs. Ok (maps xs)
value_at (keyed_maps table place short) spot node = keyed_list_at table place short spot node >>= λ xs. Ok (by_key xs)

-- ---- what reading finds

-- it is read, or something is above the limits, and it fails
abbrev pub IsReadOr : {B : Type 0} → Type 0 → Result B RowsFault → B → Type 0
IsReadOr Above r y = (r ≡ Ok y) ⊎ (Above × (is_ok r ≡ false))

-- so it is if lists may have more items than the limit
abbrev pub IsReadOrLong : {B : Type 0} → ℕ → Result B RowsFault → B → Type 0
IsReadOrLong longest = IsReadOr (most_items < longest)
