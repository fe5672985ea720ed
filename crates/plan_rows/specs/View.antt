-- What rows, seats and members hold.
use Rattle.std.specs.Prelude.{ℕ, List, map, Option, option_map, if◌then◌else◌}
use Rattle.std.specs.{Borrow.Bor, HashMap.HashMap, Map.lookup, Str.bytes_eq}
use Rattle.mpf_sections.specs.{View.{entry_view, player_view}, Typed.mode_settings}
use Rattle.mpf_sections.specs.{TypedShots.{shot_of, shot_group_of}, TypedBalls.{playfield, ball_device_of}}
use Rattle.machine_definitions.specs.Found.{has_bytes, profile_view, section_rows}
use Rattle.plan_rows.specs.declared.rows.Row as rows
use Rattle.plan_rows.specs.declared.rows.Row.TheVariants as row
use Rattle.plan_rows.specs.declared.seats.Seat as seats
use Rattle.plan_rows.specs.declared.members.Members as members
use Rattle.plan_rows.specs.declared.destination.Destination.{Destination, TheVariants.Playfield}
use Rattle.plan_rows.specs.{Seats.{Seat, row_or_unknown}, Members.Members}
use Rattle.plan_rows.specs.Rows.{Row, entry, alone, shot, group, ball_device, player, of_mode}

abbrev pub seat_view : seats.Seat → Seat
seat_view s = record { row = s.row; shot = s.shot }

-- the seat that is found by a name
abbrev pub found_seat : {S : Type 0} → HashMap (Bor (List ℕ)) seats.Seat S → List ℕ → Option Seat
found_seat table name = option_map seat_view (lookup (has_bytes name) table.entries)

-- the row that is found by a name
abbrev pub found_row : {S : Type 0} → HashMap (Bor (List ℕ)) ℕ S → List ℕ → Option ℕ
found_row table name = lookup (has_bytes name) table.entries

-- where balls go that are ejected to what has this name, if these are the rows of ball devices
abbrev pub found_destination : {S : Type 0} → HashMap (Bor (List ℕ)) ℕ S → List ℕ → Destination
found_destination table name = if bytes_eq name playfield then Playfield else row_or_unknown (found_row table name)

abbrev pub members_view : members.Members → Members
members_view m = record { enabled = m.enabled; all_known = m.all_known; profile = profile_view m.profile.now }

abbrev pub row_view : rows.Row → Row
row_view (row.Entry place section e) = entry place section.now (entry_view e.now)
row_view (row.Alone place section e) = alone place section.now (entry_view e.now)
row_view (row.Shot place s seat known p) =
    shot place (shot_of (entry_view s.now)) (option_map seat_view seat) known (profile_view p.now)
row_view (row.Group place g m) = group place (shot_group_of (entry_view g.now)) (members_view m)
row_view (row.BallDevice d to) = ball_device (ball_device_of (entry_view d.now)) to
row_view (row.Player place section p) = player place section.now (player_view p.now)
row_view (row.Mode name sections) = of_mode name.now (mode_settings (section_rows sections.now))

abbrev pub row_list_view : List rows.Row → List Row
row_list_view rs = map row_view rs
