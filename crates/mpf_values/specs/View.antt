-- What contracts see of an answer.
use Rattle.std.specs.Prelude.{◌≡◌, List, map, Option, Some, None, Result, Ok, Err}
use Rattle.mpf_values.specs.declared.fault.{BadValue.BadValue, ListFault.ListFault}
use Rattle.mpf_values.specs.declared.fault.ListFault.TheVariants as faults
use Rattle.mpf_values.specs.declared.handled.EventCondition as conditions
use Rattle.mpf_values.specs.declared.handled.Event as events
use Rattle.mpf_values.specs.declared.items.Item as items
use Rattle.mpf_values.specs.{Events.{EventCondition, Event}, Lists.Item}

-- An answer, seen by view, is what reading gives.
abbrev pub Gives : {X Y : Type 0} → (X → Y) → Result X BadValue → Option Y → Type 0
Gives view (Ok x) read = read ≡ Some (view x)
Gives view (Err e) read = read ≡ None

-- the same, unless memory ran out
abbrev pub FailsList : {Y : Type 0} → ListFault → Option Y → Type 0
FailsList faults.NoMemory read = Unit {0}
FailsList faults.BadValue read = read ≡ None

abbrev pub GivesList : {X Y : Type 0} → (X → Y) → Result X ListFault → Option Y → Type 0
GivesList view (Ok x) read = read ≡ Some (view x)
GivesList view (Err e) read = FailsList e read

-- an event without where its bytes lie in memory
abbrev pub condition_view : conditions.EventCondition → EventCondition
condition_view c = record { variable = c.variable.now; comparison = c.comparison; number = c.number }

abbrev pub condition_option_view : Option conditions.EventCondition → Option EventCondition
condition_option_view None = None
condition_option_view (Some c) = Some (condition_view c)

abbrev pub event_view : events.Event → Event
event_view e = record { name = e.name.now; condition = condition_option_view e.condition }

-- items without where their bytes lie in memory
abbrev pub item_view : items.Item → Item
item_view item = record { line = item.line; text = item.text.now }

abbrev pub items_view : List items.Item → List Item
items_view = map item_view
