use Rattle.std.proofs.Common.{◌≡◌, ◌+◌, ℕ, drop, Option, sym, ap, ◌∙◌}
use Rattle.yaml_subset.specs.Keys.{is_among}
use Rattle.mpf_sections.specs.View.{entry_view, section_view}
use Rattle.machine_definitions.specs.Found.{is_found}
use Rattle.plan_rows.specs.Seats.{row_sections, rows_after, rows_after_all, given_from, entry_seats, entry_ball_row}
use Rattle.plan_rows.specs.View.{found_seat, found_row}
use Rattle.plan_rows.proofs.SeatParts.{found_after, entries_of, entry_next, entry_rows_next}
use Rattle.plan_rows.proofs.seats.add_section.Goals as goal

pub loop-entry-preserved : goal.loop-entry-preserved
loop-entry-preserved c =
    let l = c.loop-entry in
    let place = c.args.place in
    let is_in_group = is_found c.args.group_shots.now in
    let section = (section_view c.args.section.now).name in
    let es = c.entries-entry-items.result.now in
    let e = c.entry-item.result in
    let later = entries_of section (drop (l.entry-index + 1) es) in
    let rowed : c.is_rowed-takes_rows.result ≡ is_among (row_sections place) c.deref-in-loop-entry-2.result.now =
    c.is_rowed-takes_rows.ensures ∙ ap (is_among (row_sections place))
    (c.deref.ensures.value ∙ sym c.deref-in-loop-entry-2.ensures.value) in
    let rows = c.in_ok-rows.ensures place rowed
    ∙ ap (λ s. rows_after place is_in_group l.rows (s, entry_view e)) c.deref-in-loop-entry-2.ensures.value in
    record {
      shots = λ name.
          let found = found_seat l.seats.shots name in
          let here = c.in_ok-add_entry.ensures.shots name
          ∙ ap (λ s. found_after name found (entry_seats l.rows (s, entry_view e)))
          c.deref-in-loop-entry.ensures.value in
          ap (λ (o : Option _). found_after name o (given_from entry_seats place is_in_group c.in_ok-rows.rows later))
          here
          ∙ ap (λ (n : ℕ). found_after name (found_after name found (entry_seats l.rows (section, entry_view e)))
          (given_from entry_seats place is_in_group n later)) rows
          ∙ entry_next place is_in_group entry_seats name section found l.rows es l.entry-index e c.loop-entry-test.true
          c.entry-item.is
          ∙ l.invariant.shots name;
      devices = λ name.
          let found = found_row l.seats.devices name in
          let here = c.in_ok-add_entry.ensures.devices name
          ∙ ap (λ s. found_after name found (entry_ball_row l.rows (s, entry_view e)))
          c.deref-in-loop-entry.ensures.value in
          ap (λ (o : Option _). found_after name o
          (given_from entry_ball_row place is_in_group c.in_ok-rows.rows later))
          here
          ∙ ap (λ (n : ℕ). found_after name (found_after name found (entry_ball_row l.rows (section, entry_view e)))
          (given_from entry_ball_row place is_in_group n later)) rows
          ∙ entry_next place is_in_group entry_ball_row name section found l.rows es l.entry-index e
          c.loop-entry-test.true
          c.entry-item.is
          ∙ l.invariant.devices name;
      rows = ap (λ (n : ℕ). rows_after_all place is_in_group n later) rows
          ∙ entry_rows_next place is_in_group section l.rows es l.entry-index e c.loop-entry-test.true c.entry-item.is
          ∙ l.invariant.rows;
    }
