use Rattle.std.proofs.Common.{◌≡◌, ℕ, List, drop}
use Rattle.mpf_sections.specs.View.{section_view}
use Rattle.machine_definitions.specs.Found.{is_found}
use Rattle.plan_rows.specs.Seats.{rows_after_all, given_from, entry_seats, entry_ball_row}
use Rattle.plan_rows.{specs.View.{found_seat, found_row}, proofs.SeatParts.{found_after, entries_of}}
use Rattle.plan_rows.proofs.seats.add_section.Given as goal

abbrev pub invariant-loop-entry : goal.invariant-loop-entry
invariant-loop-entry l = record {
  shots : (name : List ℕ) → found_after name (found_seat l.seats.shots name)
      (given_from entry_seats l.fn.place (is_found l.group_shots) l.rows
      (entries_of (section_view l.section).name (drop l.entry-index l.entry-items)))
      ≡ found_after name (found_seat l.initial.seats.shots name)
      (given_from entry_seats l.fn.place (is_found l.group_shots) l.before
      (entries_of (section_view l.section).name l.entry-items));
  devices : (name : List ℕ) → found_after name (found_row l.seats.devices name)
      (given_from entry_ball_row l.fn.place (is_found l.group_shots) l.rows
      (entries_of (section_view l.section).name (drop l.entry-index l.entry-items)))
      ≡ found_after name (found_row l.initial.seats.devices name)
      (given_from entry_ball_row l.fn.place (is_found l.group_shots) l.before
      (entries_of (section_view l.section).name l.entry-items));
  rows : rows_after_all l.fn.place (is_found l.group_shots) l.rows
      (entries_of (section_view l.section).name (drop l.entry-index l.entry-items))
      ≡ rows_after_all l.fn.place (is_found l.group_shots) l.before
      (entries_of (section_view l.section).name l.entry-items);
}
