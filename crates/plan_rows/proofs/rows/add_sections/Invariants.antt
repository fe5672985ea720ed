use Rattle.std.proofs.Common.{◌≡◌, ◌++◌, map, drop}
use Rattle.mpf_sections.specs.View.{section_view}
use Rattle.plan_rows.specs.{Rows.rows_in, View.{found_seat, found_destination, row_list_view}}
use Rattle.plan_rows.proofs.rows.add_sections.Given as goal

abbrev pub invariant-loop-section : goal.invariant-loop-section
invariant-loop-section l =
    row_list_view l.rows.items ++ rows_in l.definitions l.place (found_seat l.seats.shots)
    (found_destination l.seats.devices) (map section_view (drop l.section-index l.sections))
    ≡ row_list_view l.initial.rows.items ++ rows_in l.definitions l.place (found_seat l.seats.shots)
    (found_destination l.seats.devices) (map section_view l.sections)
