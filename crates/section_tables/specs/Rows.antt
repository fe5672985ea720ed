-- The rows of sections, apart from where they lie in memory.
use Rattle.std.specs.Prelude.{ℕ, List}
use Rattle.setting_values.specs.Values.{WrittenName, Plain, Value}

-- an entry: its name, the values of its settings in the order of the section's table, and the places in the table of
-- the settings that are written, in the order in which they are written
pub record Entry : Type 0 where
  pub name : WrittenName
  pub values : List Value
  pub order : List ℕ

-- an entry of a player: the event that its key is, and its value
pub record PlayerEntry : Type 0 where
  pub event : Plain
  pub value : Value
