use Rattle.std.proofs.Common.{◌+◌, map, drop, get_or, Option, ap, ◌∙◌}
use Rattle.mpf_sections.specs.View.{name_view}
use Rattle.machine_definitions.proofs.Finding.{took-value}
use Rattle.plan_rows.specs.{Seats.{Seat, seats_at}, View.{seat_view, found_seat}}
use Rattle.plan_rows.proofs.SeatParts.{found_after, seat_next}
use Rattle.plan_rows.proofs.seats.add_seats.Goals as goal

pub loop-shot-preserved : goal.loop-shot-preserved
loop-shot-preserved c = λ name.
    let l = c.loop-shot in
    let shots = c.args.shots.now in
    let row = c.args.row in
    let d = c.index-shots-shot.result in
    let later = seats_at row (l.shot + 1) (map name_view (drop (l.shot + 1) shots)) in
    let took = took-value seat_view l.seats c.insert.new.self c.deref.result (record { row = row; shot = l.shot })
    (name_view (get_or shots l.shot d)).text c.deref.ensures c.in_ok-insert.ensures.updates name in
    ap (λ (o : Option Seat). found_after name o later) took
    ∙ seat_next name (found_seat l.seats name) row shots l.shot d c.loop-shot-test.true
    ∙ l.invariant name
