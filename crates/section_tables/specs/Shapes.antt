-- Tables: what settings a section has, and how it is written.
use Rattle.std.specs.Prelude.{ℕ, List}
use Rattle.setting_values.specs.{Values.Value, Kinds.{Scalar, KeyRule, Kind}}

-- a setting of a section
abbrev pub Setting : Type 0
Setting = KeyRule Kind Value

-- of which kind the keys and the values of a player are
pub record PlayerKinds : Type 0 where
  pub key : Scalar
  pub value : Kind

-- how a section is written: entries with the settings of a table, none of which has one of these names; those of a
-- player; one entry that is the section itself; or a list of names
pub data Shape : Type 0 where
  by_entries : List (List ℕ) → List Setting → Shape
  by_players : PlayerKinds → Shape
  by_entry : List Setting → Shape
  by_names : Shape
