-- Reading an entry by a table, from its first setting to its last, with the first fault that is met.
use Rattle.std.specs.Prelude.{ℕ, if◌then◌else◌, List, Result, Ok}
use Rattle.yaml_bytes.specs.Results.{◌>>=◌}
use Rattle.yaml_subset.specs.Node.{Node, Pair}
use Rattle.mpf_values.specs.Reading.{is_name}
use Rattle.config_faults.specs.{declared.fault.BundleFaultKind.TheVariants.BadValue, Faults.{RowsFault, Spot, refuse}}
use Rattle.setting_values.specs.Values.{WrittenName, Value, written_at}
use Rattle.setting_values.specs.{Kinds.at_least, Below.pairs_below, Reading.{row_at, value_at}}
use Rattle.section_tables.specs.{Rows.{Entry, PlayerEntry}, Shapes.{Setting, PlayerKinds}}
use Rattle.section_tables.specs.{Keys.is_ignored, EntryOf.places_written}
use Rattle.section_tables.specs.Tables.{setting_key, setting_default, setting_lacks}
use Rattle.setting_values.specs.Reading.{key_spot, expect, each_read, is_one_of, scalar_of, written_in, listed_at}

-- ---- settings

abbrev pub setting_at : Setting → Spot → Node → Result Value RowsFault
setting_at s = value_at s.kind

abbrev pub values_at : Spot → List Setting → List Pair → Result (List Value) RowsFault
values_at = row_at setting_key setting_at is_ignored setting_default setting_lacks

-- ---- entries

-- an entry of a section with this table, in the text of this name
unfoldable pub entry_at : List ℕ → List Setting → Pair → Result Entry RowsFault
entry_at text table p =
    if is_name p.key
    then
    (expect (key_spot text p) (pairs_below p.value) >>= λ pairs. values_at (key_spot text p) table pairs
    >>= λ row. Ok (record { name = written_at p.line p.key; values = row; order = places_written table pairs }))
    else refuse BadValue (key_spot text p)

-- the same, under another name than these
unfoldable pub other_entry_at : List ℕ → List (List ℕ) → List Setting → Pair → Result Entry RowsFault
other_entry_at text barred_names table p =
    if is_one_of barred_names p.key then refuse BadValue (key_spot text p) else entry_at text table p

-- the entries of a section with this table, none of which has one of these names
unfoldable pub entries_at : List ℕ → List (List ℕ) → List Setting → Pair → Result (List Entry) RowsFault
entries_at text barred_names table p = expect (key_spot text p) (pairs_below p.value) >>= λ pairs. each_read
    (other_entry_at text barred_names table) pairs

-- an entry of a player
unfoldable pub player_at : List ℕ → PlayerKinds → Pair → Result PlayerEntry RowsFault
player_at text kinds p =
    expect (key_spot text p) (scalar_of kinds.key p.line p.key) >>= λ event. value_at kinds.value (key_spot text p)
    p.value
    >>= λ value. Ok (record { event = event; value = value })

-- the entries of a player
unfoldable pub players_at : List ℕ → PlayerKinds → Pair → Result (List PlayerEntry) RowsFault
players_at text kinds p = expect (key_spot text p) (pairs_below p.value) >>= λ pairs. each_read (player_at text kinds)
    pairs

-- the names that a section lists, of which there may be so many
unfoldable pub names_at : ℕ → List ℕ → Pair → Result (List WrittenName) RowsFault
names_at most text p = listed_at written_in most (at_least 0) (key_spot text p) p.value
