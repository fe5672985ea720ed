use Rattle.yaml_subset.specs.View.{pair_view}
use Rattle.section_tables.specs.{TableView.player_kinds_view, Reading.{player_at, players_at}, View.player_view}
use Rattle.setting_values.proofs.EachGiven.{gives_each}
use Rattle.section_tables.proofs.handling.read_players.Goals as goal

pub returns : goal.returns
unfolding players_at
returns c =
    let given = gives_each pair_view player_view (player_at c.args.text.now (player_kinds_view c.args.kinds))
    c.in_ok-below.below.pairs.now c.each.result c.each.ensures (λ p s m. m) in
    let has = rw c.spot_of.ensures at c.in_ok-below.ensures in
    rw has given
