-- The values of settings, apart from where they lie in memory.
use Rattle.std.specs.Prelude.{ℕ, ℤ, Bool, List}
use Rattle.mpf_values.specs.Events.{Event}

-- a name, with the line where it is written; one that is not written has line 0
pub record WrittenName : Type 0 where
  pub line : ℕ
  pub text : List ℕ

-- a handled event, with the line where it is written
pub record HandledEvent : Type 0 where
  pub line : ℕ
  pub event : Event

-- what one text says, or nothing if nothing is written
pub data Plain : Type 0 where
  nothing : Plain
  flag : Bool → Plain
  number : ℤ → Plain
  time : ℕ → Plain
  power : ℕ → Plain
  word : List ℕ → Plain
  name : WrittenName → Plain
  event : HandledEvent → Plain

-- a map in a list, with the line where it begins: its values in the order of its table
pub record Fields : Type 0 where
  pub line : ℕ
  pub values : List Plain

-- a name, and the values that belong to it in the order of their table
pub record KeyedValues : Type 0 where
  pub name : WrittenName
  pub values : List Plain

-- the value of a setting: what one text says, names, names of events that are posted, handled events, steps of handled
-- events, maps, or names with values
pub data Value : Type 0 where
  one : Plain → Value
  names : List WrittenName → Value
  posts : List WrittenName → Value
  events : List HandledEvent → Value
  steps : List (List HandledEvent) → Value
  maps : List Fields → Value
  by_key : List KeyedValues → Value

-- a name, as it is written
abbrev pub written_at : ℕ → List ℕ → WrittenName
written_at line text = record { line = line; text = text }

abbrev pub handled_at : ℕ → Event → HandledEvent
handled_at line e = record { line = line; event = e }
