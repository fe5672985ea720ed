use Rattle.std.proofs.Common.{◌≡◌, ◌++◌, map, drop}
use Rattle.mpf_sections.specs.View.{player_view}
use Rattle.plan_rows.specs.{Rows.player, View.row_list_view}
use Rattle.plan_rows.proofs.rows.add_players.Given as goal

abbrev pub invariant-loop-player : goal.invariant-loop-player
invariant-loop-player l = row_list_view l.rows.items
    ++ map (player l.place l.section) (map player_view (drop l.player-index l.players))
    ≡ row_list_view l.initial.rows.items ++ map (player l.place l.section) (map player_view l.players)
