-- What contracts see of the rows.
use Rattle.std.specs.{Prelude.{ℕ, map, set, List, ◌∷◌, Option, Some, None}, Borrow.Bor, Global.Vec}
use Rattle.section_tables.specs.{declared.rows.EntryRow.EntryRow, Rows.{Entry, PlayerEntry}}
use Rattle.section_tables.specs.declared.rows.PlayerEntry as players
use Rattle.setting_values.specs.declared.values.Value as values
use Rattle.section_tables.specs.declared.rows.Entry as entries
use Rattle.setting_values.specs.{Values.Value, View.{name_view, plain_view, value_view, values_view}}

-- ---- values

abbrev pub value_option_view : Option (Bor values.Value) → Option Value
value_option_view None = None
value_option_view (Some v) = Some (value_view v.now)

-- a row with these values written into it, each at its place, one after the other
abbrev pub with_written : {V : Type 0} → List V → List ℕ → List V → List V
with_written row (p ∷ ps) (v ∷ vs) = with_written (set row p v) ps vs
with_written row _ _ = row

-- the values of an entry, in the order of the section's table
unfoldable pub row_values : EntryRow → List values.Value
row_values row = with_written row.bare.value.items row.order.items row.written_values.items

-- ---- entries

abbrev pub entry_view : entries.Entry → Entry
entry_view e =
    record { name = name_view e.name; values = values_view (row_values e.row.value); order = e.row.value.order.items }

abbrev pub entries_view : Vec entries.Entry → List Entry
entries_view xs = map entry_view xs.items

abbrev pub player_view : players.PlayerEntry → PlayerEntry
player_view p = record { event = plain_view p.event; value = value_view p.value }

abbrev pub players_view : Vec players.PlayerEntry → List PlayerEntry
players_view xs = map player_view xs.items
