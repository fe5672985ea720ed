use Rattle.std.proofs.Common.{◌≡◌, ◌++◌, map, drop}
use Rattle.mpf_sections.specs.View.{entry_view}
use Rattle.plan_rows.specs.{Rows.entry_row, View.{found_seat, found_destination, row_list_view}}
use Rattle.plan_rows.proofs.rows.add_entries.Given as goal

abbrev pub invariant-loop-entry : goal.invariant-loop-entry
invariant-loop-entry l =
    row_list_view l.rows.items ++ map (entry_row l.definitions l.place (found_seat l.seats.shots)
    (found_destination l.seats.devices) l.section) (map entry_view (drop l.entry-index l.entries))
    ≡ row_list_view l.initial.rows.items ++ map
    (entry_row l.definitions l.place (found_seat l.seats.shots) (found_destination l.seats.devices) l.section)
    (map entry_view l.entries)
