-- What the readers of sections answer, by the tables of the program.
use Rattle.std.specs.{Prelude.{ℕ, List, Result}, Global.Vec}
use Rattle.yaml_subset.specs.{declared.tree.{Key.Key, Tree.Tree}, View.pair_view}
use Rattle.setting_values.specs.Values.{WrittenName}
use Rattle.section_tables.specs.{Rows.{Entry, PlayerEntry}, View.{entry_view, entries_view, players_view}}
use Rattle.section_tables.specs.declared.rows.Entry as entries
use Rattle.section_tables.specs.declared.rows.PlayerEntry as players
use Rattle.section_tables.specs.declared.table.{BarredNames.BarredNames, PlayerKinds.PlayerKinds, Setting.Setting}
use Rattle.config_faults.specs.{declared.fault.ConfigFault.ConfigFault, Faults.{RowsFault, GivesRows}}
use Rattle.section_tables.specs.EntryOf.{IsEntry, AreEntries, ArePlayers, AreNamesListed}
use Rattle.section_tables.specs.Reading.{entry_at, entries_at, players_at, names_at}
use Rattle.section_tables.specs.TableView.{barred_view, table_view, player_kinds_view}

-- ---- what a pair is, with at most so many items in each list

-- an entry by this table
abbrev pub IsEntryOf : ℕ → List Setting → Key × Tree → Entry → Type 0
IsEntryOf longest table pair e = IsEntry longest (table_view table) (pair_view pair) e

-- a section with these entries by this table, none of which has a barred name
abbrev pub AreEntriesOf : ℕ → BarredNames → List Setting → Key × Tree → List Entry → Type 0
AreEntriesOf longest barred_names table pair es =
    AreEntries longest (barred_view barred_names) (table_view table) (pair_view pair) es

-- a player with these entries
abbrev pub ArePlayersOf : ℕ → PlayerKinds → Key × Tree → List PlayerEntry → Type 0
ArePlayersOf longest kinds pair rows = ArePlayers longest (player_kinds_view kinds) (pair_view pair) rows

-- a section that lists these names
abbrev pub AreNamesOf : ℕ → Key × Tree → List WrittenName → Type 0
AreNamesOf longest pair ws = AreNamesListed longest (pair_view pair) ws

-- ---- what reading a pair gives in the text of this name: a value, or the first fault

-- an entry by this table
abbrev pub read_entry : List Setting → List ℕ → Key × Tree → Result Entry RowsFault
read_entry table text pair = entry_at text (table_view table) (pair_view pair)

-- the entries of a section by this table, none of which has a barred name
abbrev pub read_entries : BarredNames → List Setting → List ℕ → Key × Tree → Result (List Entry) RowsFault
read_entries barred_names table text pair =
    entries_at text (barred_view barred_names) (table_view table) (pair_view pair)

-- the entries of a player
abbrev pub read_players : PlayerKinds → List ℕ → Key × Tree → Result (List PlayerEntry) RowsFault
read_players kinds text pair = players_at text (player_kinds_view kinds) (pair_view pair)

-- the names that a section lists, of which there may be so many
abbrev pub read_names : ℕ → List ℕ → Key × Tree → Result (List WrittenName) RowsFault
read_names most text pair = names_at most text (pair_view pair)

-- ---- answers: what reading gives, which is a value or the first fault, unless memory ran out

-- the answer is the entry that is read
abbrev pub GivesEntry : Result entries.Entry ConfigFault → Result Entry RowsFault → Type 0
GivesEntry answer read = GivesRows entry_view answer read

-- the answer is the entries that are read
abbrev pub GivesEntries : Result (Vec entries.Entry) ConfigFault → Result (List Entry) RowsFault → Type 0
GivesEntries answer read = GivesRows entries_view answer read

-- the answer is the entries of a player that are read
abbrev pub GivesPlayers : Result (Vec players.PlayerEntry) ConfigFault → Result (List PlayerEntry) RowsFault → Type 0
GivesPlayers answer read = GivesRows players_view answer read
