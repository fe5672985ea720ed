use Rattle.std.proofs.Common.{◌<◌}
use Rattle.yaml_subset.specs.View.{pair_view}
use Rattle.section_tables.specs.{EntryOf.ArePlayers, Reading.players_at, TableView.player_kinds_view, View.players_view}
use Rattle.setting_values.proofs.AnswersOf.{is_found, is_only, is_refused}
use Rattle.section_tables.proofs.EntriesRead.{players_sound, players_complete}
use Rattle.section_tables.proofs.handling.players.Goals as goal

pub returns : goal.returns
returns c =
    let text = c.args.text.now in
    let kinds = player_kinds_view c.args.kinds in
    let p = pair_view c.args.pair.now in
    let read = players_at text kinds p in
    let r = c.read_players.result in
    let h = c.read_players.ensures in
    record {
      found = is_found 1024 players_view read (λ n. ArePlayers n kinds p) (λ n _. 1024 < n) (players_sound text kinds p)
          r h;
      only = is_only 1024 players_view read (λ n. ArePlayers n kinds p) (λ n _. 1024 < n)
          (players_complete text kinds p) r h;
      refused = is_refused 1024 players_view read (λ n. ArePlayers n kinds p) (λ n _. 1024 < n)
          (players_complete text kinds p) r h;
      exact = h;
    }
