use Rattle.std.{proofs.Common.{◌≡◌, map, drop}, specs.List.flat_map}
use Rattle.mpf_sections.specs.{Typed.event_player_of, View.player_view}
use Rattle.row_faults.specs.{Reserved.player_posts, Collected.{with_faults, post_faults}}
use Rattle.row_faults.proofs.reserved.add_players.Given as goal

abbrev pub invariant-loop-player : goal.invariant-loop-player
invariant-loop-player l =
    with_faults l.faults (post_faults l.faults
    (flat_map player_posts (map event_player_of (map player_view (drop l.player-index l.players)))))
    ≡ with_faults l.initial.faults (post_faults l.initial.faults
    (flat_map player_posts (map event_player_of (map player_view l.players))))
