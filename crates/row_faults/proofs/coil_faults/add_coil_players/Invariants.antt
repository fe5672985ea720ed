use Rattle.std.{proofs.Common.{◌≡◌, map, drop}, specs.List.flat_map}
use Rattle.mpf_sections.specs.{TypedCoils.coil_player_of, View.player_view}
use Rattle.row_faults.specs.{CoilFaults.coil_player_faults, Collected.with_faults}
use Rattle.row_faults.proofs.coil_faults.add_coil_players.Given as goal

abbrev pub invariant-loop-player : goal.invariant-loop-player
invariant-loop-player l =
    with_faults l.faults (flat_map (coil_player_faults l.faults.rows.machine l.faults.text)
    (map coil_player_of (map player_view (drop l.player-index l.players))))
    ≡ with_faults l.initial.faults (flat_map (coil_player_faults l.initial.faults.rows.machine l.initial.faults.text)
    (map coil_player_of (map player_view l.players)))
