-- What contracts see of the values, and of an answer.
use Rattle.std.specs.{Prelude.{ℕ, map, List, [], ◌∷◌, Option, Some, None}, Borrow.Bor, Global.{Box, Vec}}
use Rattle.yaml_subset.specs.{declared.tree.{Key.Key, Tree.Tree}, Node.{Node, Pair}, View.{node_view, pair_view}}
use Rattle.setting_values.specs.declared.nodes.{MapPairs.MapPairs, ListNodes.ListNodes}
use Rattle.setting_values.specs.Values.{steps, maps, by_key, handled_at}
use Rattle.setting_values.specs.Values.{written_at, WrittenName, HandledEvent, Plain, nothing, flag, number, time}
use Rattle.setting_values.specs.Values.{power, word, name, event, Fields, KeyedValues, Value, one, names, posts, events}
use Rattle.mpf_values.specs.Events.{EventCondition}
use Rattle.setting_values.specs.declared.values.{Name.Name, Guard.Guard, Handler.Handler}
use Rattle.setting_values.specs.declared.values.Step as step_rows
use Rattle.setting_values.specs.declared.values.Step.TheVariants as step
use Rattle.setting_values.specs.declared.values.Plain as plains
use Rattle.setting_values.specs.declared.values.Plain.TheVariants as plain
use Rattle.setting_values.specs.declared.values.Fields as fields
use Rattle.setting_values.specs.declared.values.KeyedValues as keyed_rows
use Rattle.setting_values.specs.declared.values.Value as values
use Rattle.setting_values.specs.declared.values.Value.TheVariants as value

-- ---- values

abbrev pub name_view : Name → WrittenName
name_view n = record { line = n.line; text = n.text.items }

abbrev pub guard_view : Guard → EventCondition
guard_view c = record { variable = c.variable.items; comparison = c.comparison; number = c.number }

abbrev pub guard_option_view : Option (Box Guard) → Option EventCondition
guard_option_view None = None
guard_option_view (Some c) = Some (guard_view c.value)

abbrev pub handler_view : Handler → HandledEvent
handler_view h =
    record { line = h.line; event = record { name = h.name.items; condition = guard_option_view h.condition } }

abbrev pub plain_view : plains.Plain → Plain
plain_view plain.Nothing = nothing
plain_view (plain.Flag b) = flag b
plain_view (plain.Number n) = number n
plain_view (plain.Time ms) = time ms
plain_view (plain.Power n) = power n
plain_view (plain.Word w) = word w.now
plain_view (plain.Name n) = name (name_view n.value)
plain_view (plain.DefaultName w) = name (written_at 0 w.now)
plain_view (plain.Event h) = event (handler_view h.value)

abbrev pub plains_view : List plains.Plain → List Plain
plains_view = map plain_view

abbrev pub names_view : Vec Name → List WrittenName
names_view xs = map name_view xs.items

abbrev pub handlers_view : Vec Handler → List HandledEvent
handlers_view xs = map handler_view xs.items

abbrev pub step_view : step_rows.Step → List HandledEvent
step_view (step.Always n) = handled_at n.line (record { name = n.text.items; condition = None }) ∷ []
step_view (step.AnyOf hs) = handlers_view hs

abbrev pub steps_view : Vec step_rows.Step → List (List HandledEvent)
steps_view xs = map step_view xs.items

abbrev pub fields_view : fields.Fields → Fields
fields_view m = record { line = m.line; values = plains_view m.values.items }

abbrev pub maps_view : Vec fields.Fields → List Fields
maps_view xs = map fields_view xs.items

abbrev pub keyed_view : keyed_rows.KeyedValues → KeyedValues
keyed_view k = record { name = name_view k.name; values = plains_view k.values.items }

abbrev pub keyed_list_view : Vec keyed_rows.KeyedValues → List KeyedValues
keyed_list_view xs = map keyed_view xs.items

abbrev pub value_view : values.Value → Value
value_view (value.One x) = one (plain_view x)
value_view (value.Names xs) = names (names_view xs)
value_view (value.Posts xs) = posts (names_view xs)
value_view (value.Events xs) = events (handlers_view xs)
value_view (value.Steps xs) = steps (steps_view xs)
value_view (value.Maps xs) = maps (maps_view xs)
value_view (value.Keyed xs) = by_key (keyed_list_view xs)

abbrev pub values_view : List values.Value → List Value
values_view = map value_view

-- ---- nodes

abbrev pub pairs_view : List (Key × Tree) → List Pair
pairs_view = map pair_view

abbrev pub pairs_in_view : MapPairs → List Pair
pairs_in_view below = pairs_view below.pairs.now

abbrev pub nodes_in_view : ListNodes → List Node
nodes_in_view nodes_of_list = map node_view nodes_of_list.nodes.now

-- the place and the element that were found
abbrev pub found_view : {T R : Type 0} → (T → R) → Option (ℕ × Bor T) → Option (ℕ × R)
found_view view None = None
found_view view (Some p) = Some (p.0, view p.1.now)
