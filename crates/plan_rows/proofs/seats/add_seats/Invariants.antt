use Rattle.std.proofs.Common.{◌≡◌, ℕ, List, map, drop}
use Rattle.mpf_sections.specs.View.{name_view}
use Rattle.plan_rows.{specs.{Seats.seats_at, View.found_seat}, proofs.SeatParts.found_after}
use Rattle.plan_rows.proofs.seats.add_seats.Given as goal

abbrev pub invariant-loop-shot : goal.invariant-loop-shot
invariant-loop-shot l =
    (name : List ℕ) → found_after name (found_seat l.seats name)
    (seats_at l.row l.shot (map name_view (drop l.shot l.shots)))
    ≡ found_after name (found_seat l.initial.seats name) (seats_at l.row 0 (map name_view l.shots))
