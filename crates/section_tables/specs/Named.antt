-- What it means that every name in a row is well formed, and that no list in it is longer than its limit.
use Rattle.std.specs.{Prelude.{ℕ, List}, List.{All, AllByRecursion}}
use Rattle.mpf_values.specs.Names.{IsName}
use Rattle.setting_values.specs.{Values.{Plain, name, event}, Kinds.{Scalar, a_name, an_event}}
use Rattle.section_tables.specs.{Rows.{Entry, PlayerEntry}, Tables.setting_default}
use Rattle.section_tables.specs.Shapes.{Setting, PlayerKinds, Shape, by_entries, by_players, by_entry, by_names}
use Rattle.setting_values.specs.NamedValues.{IsNamedHandled, IsNamedValue, IsNamedKind, IsShortValue}

-- ---- names

-- each name in an entry is one
pub record IsNamedEntry (e : Entry) : Type 0 where
  pub name : IsName e.name.text
  pub values : AllByRecursion IsNamedValue e.values

-- an event whose names are names
abbrev pub IsNamedEvent : Plain → Type 0
IsNamedEvent (name w) = IsName w.text
IsNamedEvent (event h) = IsNamedHandled h
IsNamedEvent _ = ⊥

-- each name in an entry of a player is one
pub record IsNamedPlayer (row : PlayerEntry) : Type 0 where
  pub event : IsNamedEvent row.event
  pub value : IsNamedValue row.value

abbrev pub IsNamedTable : List Setting → Type 0
IsNamedTable = AllByRecursion (λ s. IsNamedValue (setting_default s) × IsNamedKind s.kind)

-- the keys of a player are events, and what holds by default in its values is named
abbrev pub IsEventKind : Scalar → Type 0
IsEventKind a_name = Unit {0}
IsEventKind an_event = Unit {0}
IsEventKind _ = ⊥

pub record IsNamedKinds (kinds : PlayerKinds) : Type 0 where
  pub key : IsEventKind kinds.key
  pub value : IsNamedKind kinds.value

abbrev pub IsNamedShape : Shape → Type 0
IsNamedShape (by_entries barred_names table) = IsNamedTable table
IsNamedShape (by_players kinds) = IsNamedKinds kinds
IsNamedShape (by_entry table) = IsNamedTable table
IsNamedShape by_names = Unit {0}

-- ---- limits

-- no list in an entry, or in one of a player
abbrev pub IsShortEntry : ℕ → Entry → Type 0
IsShortEntry longest e = All (IsShortValue longest) e.values

abbrev pub IsShortPlayer : ℕ → PlayerEntry → Type 0
IsShortPlayer longest row = IsShortValue longest row.value

-- nor in what holds by default in a table
abbrev pub IsShortTable : ℕ → List Setting → Type 0
IsShortTable longest = AllByRecursion (λ s. IsShortValue longest (setting_default s))

abbrev pub IsShortShape : ℕ → Shape → Type 0
IsShortShape longest (by_entries barred_names table) = IsShortTable longest table
IsShortShape longest (by_players kinds) = Unit {0}
IsShortShape longest (by_entry table) = IsShortTable longest table
IsShortShape longest by_names = Unit {0}
