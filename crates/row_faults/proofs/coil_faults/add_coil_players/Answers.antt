use Rattle.std.{proofs.{Common.{map, sym, ap, ◌∙◌}, lemmas.List.at_drop_all}, specs.List.flat_map}
use Rattle.mpf_sections.specs.{TypedCoils.{coil_player_of, coil_players_in}, View.player_view}
use Rattle.row_faults.{specs.{CoilFaults.coil_player_faults, Collected.with_faults}, proofs.Collected.with-none}
use Rattle.row_faults.proofs.coil_faults.add_coil_players.Goals as goal

pub returns : goal.returns
unfolding coil_players_in
returns c =
    let l = c.loop-player in
    let f = l.faults in
    let first = c.args.faults.now in
    let players = c.players_of-players.result.now in
    sym (with-none f)
    ∙ sym (at_drop_all (λ ps. with_faults f
    (flat_map (coil_player_faults f.rows.machine f.text) (map coil_player_of (map player_view ps)))) players
    l.player-index c.loop-player-test.false)
    ∙ l.invariant
    ∙ ap (λ ps. with_faults first (flat_map (coil_player_faults first.rows.machine first.text) (map coil_player_of ps)))
    c.players_of-players.ensures
