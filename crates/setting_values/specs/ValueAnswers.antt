-- What contracts of the functions inside this crate see.
use Rattle.std.specs.Prelude.{◌≡◌, ℕ, Bool, List, [], ◌∷◌, length, map, filter, set, Option, Some, None, Result, Ok}
use Rattle.std.specs.{Prelude.if◌then◌else◌, Borrow.Bor, Global.Vec}
use Rattle.yaml_subset.specs.{declared.tree.{Key.Key, Tree.Tree}, Node.{Node, Pair}}
use Rattle.yaml_subset.specs.View.{node_view, pair_view, text_in}
use Rattle.mpf_values.specs.declared.items.Item as items
use Rattle.mpf_values.specs.{Lists.Item, Reading.{is_name, event_at, scalar_at}, View.{item_view, items_view}}
use Rattle.setting_values.specs.declared.{nodes.ListNodes.ListNodes, values.{Name.Name, Handler.Handler, Step.Step}}
use Rattle.setting_values.specs.declared.values.Plain as plains
use Rattle.setting_values.specs.declared.values.Fields as maps
use Rattle.setting_values.specs.declared.values.KeyedValues as keyed_rows
use Rattle.setting_values.specs.declared.kinds.{Scalar.Scalar, Others.Others, Field.Field, Bounds.Bounds}
use Rattle.config_faults.specs.declared.{spot.Spot.Spot, fault.ConfigFault.ConfigFault}
use Rattle.setting_values.specs.Values.{WrittenName, HandledEvent, Plain, name, event, Fields, KeyedValues, written_at}
use Rattle.setting_values.specs.{Values.handled_at, Kinds.at_least}
use Rattle.setting_values.specs.{ValueOf.{pass, own_name}, View.{found_view, nodes_in_view}}
use Rattle.config_faults.specs.Faults.{RowsFault, spot_view, GivesRows}
use Rattle.setting_values.specs.Kinds as kinds
use Rattle.setting_values.specs.KeyRules.{found_in, field_key, field_default, field_lacks}
use Rattle.config_faults.specs.Faults as seen
use Rattle.setting_values.specs.Reading.{◌>>=◌, expect, give, counts, each_read, plain_at, most_items, count_at}
use Rattle.setting_values.specs.Reading.{written_in, handled_in, list_items_at, listed_at, list_nodes_at, nodes_at}
use Rattle.setting_values.specs.Reading.{put_at, overwritten_at, lacking, field_at, fields_row_at, fields_at}
use Rattle.setting_values.specs.Reading.{named_maps_at, keyed_row_at, keyed_at, few_pairs_at, keyed_list_at}
use Rattle.setting_values.specs.KindView.{scalar_view, bounds_view, others_view, field_view}
use Rattle.setting_values.specs.View.{name_view, handler_view, handlers_view, step_view, steps_view, plain_view}
use Rattle.setting_values.specs.View.{plains_view, fields_view, maps_view, keyed_view, keyed_list_view, pairs_view}

-- ---- answers: what reading gives, which is a value or the first fault, unless memory ran out

-- the check passes or fails as it is to
abbrev pub GivesCheck : Result (Unit {0}) ConfigFault → Result (Unit {0}) RowsFault → Type 0
GivesCheck answer read = GivesRows (λ _. tt) answer read

-- the answer is the nodes of a YAML list
abbrev pub GivesNodes : Result ListNodes ConfigFault → Result (List Node) RowsFault → Type 0
GivesNodes answer read = GivesRows nodes_in_view answer read

-- the answer is the item that is read
abbrev pub GivesItem : Result items.Item ConfigFault → Result Item RowsFault → Type 0
GivesItem answer read = GivesRows item_view answer read

-- the answer is the items of a list
abbrev pub GivesItems : Result (Vec items.Item) ConfigFault → Result (List Item) RowsFault → Type 0
GivesItems answer read = GivesRows (λ list. items_view list.items) answer read

-- the answer is the name that is read
abbrev pub GivesName : Result Name ConfigFault → Result WrittenName RowsFault → Type 0
GivesName answer read = GivesRows name_view answer read

-- the answer is the handled event that is read
abbrev pub GivesHandler : Result Handler ConfigFault → Result HandledEvent RowsFault → Type 0
GivesHandler answer read = GivesRows handler_view answer read

-- the answer is the handled events that are read
abbrev pub GivesHandlers : Result (Vec Handler) ConfigFault → Result (List HandledEvent) RowsFault → Type 0
GivesHandlers answer read = GivesRows handlers_view answer read

-- the answer is the step that is read
abbrev pub GivesStep : Result Step ConfigFault → Result (List HandledEvent) RowsFault → Type 0
GivesStep answer read = GivesRows step_view answer read

-- the answer is the steps that are read
abbrev pub GivesSteps : Result (Vec Step) ConfigFault → Result (List (List HandledEvent)) RowsFault → Type 0
GivesSteps answer read = GivesRows steps_view answer read

-- the answer is what a text is read to say
abbrev pub GivesPlain : Result plains.Plain ConfigFault → Result Plain RowsFault → Type 0
GivesPlain answer read = GivesRows plain_view answer read

-- the answer is the row of fields that is read
abbrev pub GivesPlains : Result (Vec plains.Plain) ConfigFault → Result (List Plain) RowsFault → Type 0
GivesPlains answer read = GivesRows (λ row. plains_view row.items) answer read

-- the answer is the map of a list that is read
abbrev pub GivesFields : Result maps.Fields ConfigFault → Result Fields RowsFault → Type 0
GivesFields answer read = GivesRows fields_view answer read

-- the answer is the maps of a list that are read
abbrev pub GivesMaps : Result (Vec maps.Fields) ConfigFault → Result (List Fields) RowsFault → Type 0
GivesMaps answer read = GivesRows maps_view answer read

-- the answer is the name that is read, with the values that belong to it
abbrev pub GivesKeyed : Result keyed_rows.KeyedValues ConfigFault → Result KeyedValues RowsFault → Type 0
GivesKeyed answer read = GivesRows keyed_view answer read

-- the answer is the names that are read, with the values that belong to each
abbrev pub GivesKeyedList : Result (Vec keyed_rows.KeyedValues) ConfigFault → Result (List KeyedValues) RowsFault
    → Type 0
GivesKeyedList answer read = GivesRows keyed_list_view answer read

-- a row of fields is afterwards what reading makes of it
abbrev pub FillsPlains : Result (Unit {0}) ConfigFault → List plains.Plain → Result (List Plain) RowsFault → Type 0
FillsPlains answer row read = GivesRows (λ _. plains_view row) answer read

-- ---- nodes and items: what reading gives, whose faults stand at a spot

-- the pairs of a mapping that counts as a list, which are not too many
abbrev pub read_few_pairs : Spot → Tree → Result (List Pair) RowsFault
read_few_pairs spot tree = few_pairs_at (spot_view spot) (node_view tree)

-- the nodes of a YAML list
abbrev pub read_nodes : Spot → Bounds → Tree → Result (List Node) RowsFault
read_nodes spot bounds tree = list_nodes_at (bounds_view bounds) (spot_view spot) (node_view tree)

-- that a list may have so many items, or its fault
abbrev pub check_of_count : Spot → ℕ → Bounds → ℕ → Result (Unit {0}) RowsFault
check_of_count spot most bounds count = count_at most (bounds_view bounds) (spot_view spot) count

-- the items of a list
abbrev pub read_items : Spot → ℕ → Bounds → Tree → Result (List Item) RowsFault
read_items spot most bounds value = list_items_at most (bounds_view bounds) (spot_view spot) (node_view value)

-- the name that an item is
abbrev pub read_item_name : Spot → items.Item → Result WrittenName RowsFault
read_item_name spot item = written_in (spot_view spot) (item_view item)

-- the handled event that an item is
abbrev pub read_item_handler : Spot → items.Item → Result HandledEvent RowsFault
read_item_handler spot item = handled_in (spot_view spot) (item_view item)

-- whether a node of a YAML list counts as an item, good or bad
abbrev pub is_counted : Tree → Bool
is_counted node = counts (node_view node)

-- what f gives for the item that a node of a YAML list is
abbrev pub node_item_at : {B : Type 0} → (seen.Spot → Item → Result B RowsFault) → seen.Spot → Node → Result B RowsFault
node_item_at f spot node = expect spot (scalar_at node) >>= λ item. f spot item

-- what f gives for each item of a YAML list with these nodes, which are counted before it
abbrev pub counted_at : {B : Type 0} → (seen.Spot → Item → Result B RowsFault) → ℕ → kinds.Bounds → seen.Spot
    → List Node → Result (List B) RowsFault
counted_at f most bounds spot nodes = count_at most bounds spot (length (filter counts nodes)) >>= λ _. each_read
    (node_item_at f spot) (filter counts nodes)

-- the item that a node of a YAML list is
abbrev pub read_node_item : Spot → Tree → Result Item RowsFault
read_node_item spot node = expect (spot_view spot) (scalar_at (node_view node))

-- the name that a node of a YAML list is
abbrev pub read_node_name : Spot → Tree → Result WrittenName RowsFault
read_node_name spot node = node_item_at written_in (spot_view spot) (node_view node)

-- the handled event that a node of a YAML list is
abbrev pub read_node_handler : Spot → Tree → Result HandledEvent RowsFault
read_node_handler spot node = node_item_at handled_in (spot_view spot) (node_view node)

-- the names in a YAML list with these nodes
abbrev pub read_node_names : Spot → ℕ → Bounds → List Tree → Result (List WrittenName) RowsFault
read_node_names spot most bounds nodes = counted_at written_in most (bounds_view bounds) (spot_view spot)
    (map node_view nodes)

-- the handled events in a YAML list with these nodes
abbrev pub read_node_handlers : Spot → Bounds → List Tree → Result (List HandledEvent) RowsFault
read_node_handlers spot bounds nodes = counted_at handled_in most_items (bounds_view bounds) (spot_view spot)
    (map node_view nodes)

-- the list of one name at a line, which is one item
abbrev pub read_one_name : Spot → ℕ → Bounds → ℕ → List ℕ → Result (List WrittenName) RowsFault
read_one_name spot most bounds line text = check_of_count spot most bounds 1 >>= λ _. Ok (written_at line text ∷ [])

-- the list of one event of this name at a line, handled always
abbrev pub read_one_handler : Spot → Bounds → ℕ → List ℕ → Result (List HandledEvent) RowsFault
read_one_handler spot bounds line text = check_of_count spot most_items bounds 1 >>= λ _. Ok
    (handled_at line (record { name = text; condition = None }) ∷ [])

-- the handled events in a list
abbrev pub read_listed_handlers : Spot → Bounds → Tree → Result (List HandledEvent) RowsFault
read_listed_handlers spot bounds value = listed_at handled_in most_items (bounds_view bounds) (spot_view spot)
    (node_view value)

-- a step, which is a list of handled events that is not empty
abbrev pub read_step : Spot → Tree → Result (List HandledEvent) RowsFault
read_step spot tree = listed_at handled_in most_items (at_least 1) (spot_view spot) (node_view tree)

-- the steps in a list
abbrev pub read_steps : Spot → Bounds → Tree → Result (List (List HandledEvent)) RowsFault
read_steps spot bounds tree = nodes_at (listed_at handled_in most_items (at_least 1)) (bounds_view bounds)
    (spot_view spot) (node_view tree)

-- ---- texts

-- the name that a text at a line says
abbrev pub name_said : ℕ → List ℕ → Option Plain
name_said line text = if is_name text then Some (name (written_at line text)) else None

-- the handled event that a text at a line says
abbrev pub event_said : ℕ → List ℕ → Option Plain
event_said line text = give (λ e. event (handled_at line e)) (event_at text)

-- what a node says that is a text
abbrev pub read_plain : Spot → Scalar → Tree → Result Plain RowsFault
read_plain spot kind tree = plain_at (scalar_view kind) (spot_view spot) (node_view tree)

-- ---- rows by a table of fields

-- what is found in a table by a key: the field with its place, or none
abbrev pub FindsField : Option (ℕ × Bor Field) → List Field → List ℕ → Type 0
FindsField answer table key = found_view field_view answer ≡ found_in field_key key (map field_view table)

-- the key of the first field that has to be written and is not
abbrev pub lacking_field : List Field → List plains.Plain → Option (List ℕ)
lacking_field table row = lacking field_key field_lacks (map field_view table) (plains_view row)

-- a row has for each field what holds if nothing is written
abbrev pub AreFieldDefaults : List Field → List plains.Plain → Type 0
AreFieldDefaults table row = plains_view row ≡ map field_default (map field_view table)

-- a row has the same, but for this value at its place
abbrev pub AreFieldDefaultsBut : ℕ → plains.Plain → List Field → List plains.Plain → Type 0
AreFieldDefaultsBut at value table row = plains_view row
    ≡ set (map field_default (map field_view table)) at (plain_view value)

-- a row of fields with the value of a pair in it
abbrev pub put_field : Spot → List Field → Others → Tree → List plains.Plain → Result (List Plain) RowsFault
put_field spot table others tree row =
    put_at field_at (others_view others) (spot_view spot) (node_view tree) (plains_view row)
    (found_in field_key spot.key.now (map field_view table))

-- a row of fields, overwritten by pairs
abbrev pub overwrite_fields : List ℕ → List Field → Others → List (Key × Tree) → List plains.Plain
    → Result (List Plain) RowsFault
overwrite_fields text table others pairs row =
    overwritten_at field_key field_at (pass (others_view others)) text (map field_view table) (pairs_view pairs)
    (plains_view row)

-- the row of the pairs of a map
abbrev pub read_field_row : Spot → List Field → Others → List (Key × Tree) → Result (List Plain) RowsFault
read_field_row spot table others pairs = fields_row_at (others_view others) (spot_view spot) (map field_view table)
    (pairs_view pairs)

-- ---- maps

-- a map in a list
abbrev pub read_fields : Spot → List Field → Others → Tree → Result Fields RowsFault
read_fields spot table others tree = fields_at (map field_view table) (others_view others) (spot_view spot)
    (node_view tree)

-- the maps in a list
abbrev pub read_maps : Spot → List Field → Others → Bounds → Tree → Result (List Fields) RowsFault
read_maps spot table others bounds tree = nodes_at (fields_at (map field_view table) (others_view others))
    (bounds_view bounds) (spot_view spot) (node_view tree)

-- the maps in a list, if each has a name of its own
abbrev pub read_named_maps : Spot → List Field → Others → Bounds → Tree → Result (List Fields) RowsFault
read_named_maps spot table others bounds tree =
    named_maps_at (map field_view table) (others_view others) (bounds_view bounds) (spot_view spot) (node_view tree)

-- the name of a map, which is its first value
abbrev pub name_of_map : maps.Fields → List ℕ
name_of_map m = own_name (fields_view m)

-- the names of maps
abbrev pub names_of_maps : List maps.Fields → List (List ℕ)
names_of_maps items = map own_name (map fields_view items)

-- the values that belong to a name
abbrev pub read_keyed_row : Spot → List Field → ℕ → Scalar → Tree → Result (List Plain) RowsFault
read_keyed_row spot table at short tree = keyed_row_at (map field_view table) at (scalar_view short) (spot_view spot)
    (node_view tree) (text_in (node_view tree))

-- a name with the values that belong to it, in the text of this name
abbrev pub read_keyed : List ℕ → List Field → ℕ → Scalar → Key × Tree → Result KeyedValues RowsFault
read_keyed text table at short pair = keyed_at text (map field_view table) at (scalar_view short) (pair_view pair)

-- the names of a map, each with the values that belong to it
abbrev pub read_keyed_list : Spot → List Field → ℕ → Scalar → Tree → Result (List KeyedValues) RowsFault
read_keyed_list spot table at short tree =
    keyed_list_at (map field_view table) at (scalar_view short) (spot_view spot) (node_view tree)
