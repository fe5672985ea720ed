use Rattle.std.proofs.Common.{◌+◌, ℕ, map, drop, Option, ap, ◌∙◌}
use Rattle.mpf_sections.specs.View.{section_view}
use Rattle.machine_definitions.specs.Found.{is_found}
use Rattle.plan_rows.specs.Seats.{Seat, section_entries, text_entries, rows_after_all, given_from, entry_seats}
use Rattle.plan_rows.specs.{Seats.entry_ball_row, View.{found_seat, found_row}}
use Rattle.plan_rows.proofs.SeatParts.{found_after, section_next, section_rows_next}
use Rattle.plan_rows.proofs.seats.add_sections.Goals as goal

pub loop-section-preserved : goal.loop-section-preserved
loop-section-preserved c =
    let l = c.loop-section in
    let place = c.args.place in
    let is_in_group = is_found c.args.group_shots.now in
    let ss = c.args.sections.now in
    let s = c.section-item.result in
    let later = text_entries (map section_view (drop (l.section-index + 1) ss)) in
    record {
      shots = λ name.
          let found = found_seat l.seats.shots name in
          ap (λ (o : Option Seat). found_after name o
          (given_from entry_seats place is_in_group c.in_ok-rows.rows later))
          (c.in_ok-rows.ensures.shots name)
          ∙ ap (λ (n : ℕ). found_after name
          (found_after name found (given_from entry_seats place is_in_group l.rows (section_entries (section_view s))))
          (given_from entry_seats place is_in_group n later)) c.in_ok-rows.ensures.rows
          ∙ section_next place is_in_group entry_seats name found l.rows ss l.section-index s c.loop-section-test.true
          c.section-item.is
          ∙ l.invariant.shots name;
      devices = λ name.
          let found = found_row l.seats.devices name in
          ap (λ (o : Option ℕ). found_after name o
          (given_from entry_ball_row place is_in_group c.in_ok-rows.rows later))
          (c.in_ok-rows.ensures.devices name)
          ∙ ap (λ (n : ℕ). found_after name
          (found_after name found (given_from entry_ball_row place is_in_group l.rows
          (section_entries (section_view s)))) (given_from entry_ball_row place is_in_group n later))
          c.in_ok-rows.ensures.rows
          ∙ section_next place is_in_group entry_ball_row name found l.rows ss l.section-index s
          c.loop-section-test.true
          c.section-item.is
          ∙ l.invariant.devices name;
      rows =
          ap (λ (n : ℕ). rows_after_all place is_in_group n later) c.in_ok-rows.ensures.rows
          ∙ section_rows_next place is_in_group l.rows ss l.section-index s c.loop-section-test.true c.section-item.is
          ∙ l.invariant.rows;
    }
