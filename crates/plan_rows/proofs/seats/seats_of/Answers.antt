use Rattle.std.proofs.Common.{◌≡◌, ℕ, Bool, List, map, None, ap, ◌∙◌}
use Rattle.std.specs.{Prelude.{option_map, if◌then◌else◌}, Map.lookup, Str.bytes_eq}
use Rattle.mpf_sections.specs.{TypedBalls.playfield, View.section_view}
use Rattle.machine_definitions.specs.Found.{has_bytes, is_found}
use Rattle.plan_rows.specs.declared.destination.Destination.TheVariants.{Playfield}
use Rattle.plan_rows.{specs.{View.seat_view, Seats.row_or_unknown}, proofs.SeatParts.found_after}
use Rattle.plan_rows.specs.Seats.{is_grouped, text_entries, rows_after_all, given_from, entry_seats, entry_ball_row}
use Rattle.plan_rows.proofs.seats.seats_of.Goals as goal

pub returns-clause-seats : goal.returns-clause-seats
returns-clause-seats c = λ name.
    let entries = text_entries (map section_view c.args.sections.now) in
    let is_in_group = is_found c.in_ok-group_shots.group_shots in
    let same : is_in_group ≡ is_grouped (map section_view c.args.sections.now) =
    λ i name. c.in_ok-group_shots.ensures name i in
    c.in_ok-rows.ensures.shots name
    ∙ ap (λ found. found_after name (option_map seat_view (lookup (has_bytes name) found))
    (given_from entry_seats c.args.place is_in_group c.args.before entries)) c.with_hasher-shots.ensures.empty
    ∙ ap (λ (g : List ℕ → Bool). found_after name None (given_from entry_seats c.args.place g c.args.before entries))
    same

pub returns-clause-destinations : goal.returns-clause-destinations
returns-clause-destinations c = λ name.
    let entries = text_entries (map section_view c.args.sections.now) in
    let is_in_group = is_found c.in_ok-group_shots.group_shots in
    let same : is_in_group ≡ is_grouped (map section_view c.args.sections.now) =
    λ i name. c.in_ok-group_shots.ensures name i in
    let row =
    c.in_ok-rows.ensures.devices name
    ∙ ap (λ found. found_after name (lookup (has_bytes name) found)
    (given_from entry_ball_row c.args.place is_in_group c.args.before entries)) c.with_hasher-devices.ensures.empty
    ∙ ap (λ (g : List ℕ → Bool). found_after name None (given_from entry_ball_row c.args.place g c.args.before entries))
    same in
    λ i. if bytes_eq name playfield then Playfield else row_or_unknown (row i)

pub returns-clause-rows : goal.returns-clause-rows
returns-clause-rows c =
    let entries = text_entries (map section_view c.args.sections.now) in
    let is_in_group = is_found c.in_ok-group_shots.group_shots in
    let same : is_in_group ≡ is_grouped (map section_view c.args.sections.now) =
    λ i name. c.in_ok-group_shots.ensures name i in
    c.in_ok-rows.ensures.rows ∙ ap (λ (g : List ℕ → Bool). rows_after_all c.args.place g c.args.before entries) same
