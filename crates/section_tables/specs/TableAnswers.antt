-- What contracts of the functions inside this crate see.
use Rattle.std.specs.{Prelude.{◌≡◌, ℕ, List, [], ◌++◌, map, slice_get, Option, Result}, Borrow.Bor, Global.Vec}
use Rattle.yaml_subset.specs.{declared.tree.{Key.Key, Tree.Tree}, View.{node_view, pair_view, option_slice}}
use Rattle.section_tables.specs.{declared.rows.EntryRow.EntryRow, EntryOf.{place_found, places_written}}
use Rattle.setting_values.specs.declared.values.Value as values
use Rattle.section_tables.specs.declared.rows.PlayerEntry as players
use Rattle.section_tables.specs.declared.table.{Setting.Setting, PlayerKinds.PlayerKinds, BarredNames.BarredNames}
use Rattle.config_faults.specs.declared.{spot.Spot.Spot, fault.ConfigFault.ConfigFault}
use Rattle.setting_values.specs.{Values.Value, KeyRules.found_in, Reading.{put_at, overwritten_at, lacking}}
use Rattle.section_tables.specs.{Rows.{Entry, PlayerEntry}, Keys.is_ignored}
use Rattle.config_faults.specs.Faults.{RowsFault, spot_view, GivesRows}
use Rattle.section_tables.specs.Tables.{setting_key, setting_default, setting_lacks}
use Rattle.section_tables.specs.Reading.{setting_at, values_at, other_entry_at, player_at}
use Rattle.section_tables.specs.TableView.{setting_view, table_view, player_kinds_view, barred_view}
use Rattle.setting_values.specs.View.{values_view, pairs_view, found_view}
use Rattle.section_tables.specs.View.{value_option_view, with_written, row_values, player_view}

-- ---- answers: what reading gives, which is a value or the first fault, unless memory ran out

-- the answer leads to the row of an entry that is read, apart from its order
abbrev pub GivesRow : {R : Type 0} → (R → EntryRow) → Result R ConfigFault → Result (List Value) RowsFault → Type 0
GivesRow row_at answer read = GivesRows (λ row_of_section. values_view (row_values (row_at row_of_section))) answer read

-- the answer is the entry of a player that is read
abbrev pub GivesPlayer : Result players.PlayerEntry ConfigFault → Result PlayerEntry RowsFault → Type 0
GivesPlayer answer read = GivesRows player_view answer read

-- a row is what reading makes of it, with what is written afterwards
abbrev pub WritesValues : Result (Unit {0}) ConfigFault → List values.Value → Vec ℕ → Vec values.Value
    → Result (List Value) RowsFault → Type 0
WritesValues answer row order written_values read =
    GivesRows (λ _. values_view (with_written row order.items written_values.items)) answer read

-- ---- rows by a table of settings

-- what is found in a table by a key: the setting with its place, or none
abbrev pub FindsSetting : Option (ℕ × Bor Setting) → List Setting → List ℕ → Type 0
FindsSetting pair_found table key = found_view setting_view pair_found ≡ found_in setting_key key (table_view table)

-- the key of the first setting that has to be written and is not
abbrev pub lacking_setting : List Setting → List values.Value → Option (List ℕ)
lacking_setting table row = lacking setting_key setting_lacks (table_view table) (values_view row)

-- a row has for each setting what holds if nothing is written
abbrev pub AreSettingDefaults : List Setting → List values.Value → Type 0
AreSettingDefaults table row = values_view row ≡ map setting_default (table_view table)

-- a row has in it what holds if nothing is written, in no order, and it lacks this key first, or none
abbrev pub IsBareRow : List Setting → EntryRow → Option (Bor (List ℕ)) → Type 0
IsBareRow table row lacks =
    AreSettingDefaults table (row_values row) × (row.order.items ≡ [])
    × (option_slice (λ key. key) lacks ≡ lacking_setting table (row_values row))

-- a value is the one at this place of a row
abbrev pub IsValueAt : EntryRow → ℕ → Option (Bor values.Value) → Type 0
IsValueAt row place value = value_option_view value ≡ slice_get (values_view (row_values row)) place

-- a row of settings with the value of a pair in it
abbrev pub put_setting : Spot → List Setting → Tree → List values.Value → Result (List Value) RowsFault
put_setting spot table tree row =
    put_at setting_at (is_ignored spot.key.now) (spot_view spot) (node_view tree) (values_view row)
    (found_in setting_key spot.key.now (table_view table))

-- a row of settings, overwritten by pairs
abbrev pub overwrite_settings : List ℕ → List Setting → List (Key × Tree) → List values.Value
    → Result (List Value) RowsFault
overwrite_settings text table pairs row = overwritten_at setting_key setting_at is_ignored text (table_view table)
    (pairs_view pairs) (values_view row)

-- the row of the pairs of an entry
abbrev pub read_row : Spot → List Setting → List (Key × Tree) → Result (List Value) RowsFault
read_row spot table pairs = values_at (spot_view spot) (table_view table) (pairs_view pairs)

-- an order of places has grown by these
abbrev pub GainsPlaces : (old new : Vec ℕ) → List ℕ → Type 0
GainsPlaces old new more = new.items ≡ old.items ++ more

-- the place in a table of the setting with this key, or none
abbrev pub place_of_key : List Setting → List ℕ → List ℕ
place_of_key table key = place_found (found_in setting_key key (table_view table))

-- the places in a table of the settings that pairs write, in the order of the pairs
abbrev pub places_of_pairs : List Setting → List (Key × Tree) → List ℕ
places_of_pairs table pairs = places_written (table_view table) (pairs_view pairs)

-- ---- entries

-- an entry of a section with this table, under another name than the barred ones
abbrev pub read_other_entry : BarredNames → List Setting → List ℕ → Key × Tree → Result Entry RowsFault
read_other_entry barred_names table text pair =
    other_entry_at text (barred_view barred_names) (table_view table) (pair_view pair)

-- an entry of a player
abbrev pub read_player : PlayerKinds → List ℕ → Key × Tree → Result PlayerEntry RowsFault
read_player kinds text pair = player_at text (player_kinds_view kinds) (pair_view pair)
