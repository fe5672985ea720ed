use Rattle.std.{proofs.Common.{◌≡◌, map, drop}, specs.List.flat_map}
use Rattle.mpf_sections.specs.{TypedGame.variable_player_of, View.player_view}
use Rattle.row_faults.specs.{VariableFaults.variable_player_faults, Collected.with_faults}
use Rattle.row_faults.proofs.variable_faults.add_variable_players.Given as goal

abbrev pub invariant-loop-player : goal.invariant-loop-player
invariant-loop-player l =
    with_faults l.faults (flat_map (variable_player_faults l.faults.modes l.faults.text)
    (map variable_player_of (map player_view (drop l.player-index l.players))))
    ≡ with_faults l.initial.faults (flat_map (variable_player_faults l.initial.faults.modes l.initial.faults.text)
    (map variable_player_of (map player_view l.players)))
