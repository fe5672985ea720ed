use Rattle.std.proofs.Common.{◌≡◌, ℕ, List, map, drop}
use Rattle.mpf_sections.specs.View.{section_view}
use Rattle.machine_definitions.specs.Found.{is_found}
use Rattle.plan_rows.specs.Seats.{text_entries, rows_after_all, given_from, entry_seats, entry_ball_row}
use Rattle.plan_rows.{specs.View.{found_seat, found_row}, proofs.SeatParts.found_after}
use Rattle.plan_rows.proofs.seats.add_sections.Given as goal

abbrev pub invariant-loop-section : goal.invariant-loop-section
invariant-loop-section l = record {
  shots : (name : List ℕ) → found_after name (found_seat l.seats.shots name)
      (given_from entry_seats l.place (is_found l.group_shots) l.rows
      (text_entries (map section_view (drop l.section-index l.sections))))
      ≡ found_after name (found_seat l.initial.seats.shots name)
      (given_from entry_seats l.place (is_found l.group_shots) l.before
      (text_entries (map section_view l.sections)));
  devices : (name : List ℕ) → found_after name (found_row l.seats.devices name)
      (given_from entry_ball_row l.place (is_found l.group_shots) l.rows
      (text_entries (map section_view (drop l.section-index l.sections))))
      ≡ found_after name (found_row l.initial.seats.devices name)
      (given_from entry_ball_row l.place (is_found l.group_shots) l.before
      (text_entries (map section_view l.sections)));
  rows : rows_after_all l.place (is_found l.group_shots) l.rows
      (text_entries (map section_view (drop l.section-index l.sections)))
      ≡ rows_after_all l.place (is_found l.group_shots) l.before (text_entries (map section_view l.sections));
}
