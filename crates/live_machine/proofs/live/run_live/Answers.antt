use Rattle.std.proofs.{Common.{◌≡◌, Err, IsErrOf, ap, sym, ◌∙◌, map, subst}, lemmas.Result.err_from_is_err_and}
use Rattle.machine_core.specs.Fit.{IsFit}
use Rattle.pinball_shell.specs.declared.fault.ShellFault.TheVariants as faults
use Rattle.pinball_shell.{specs.LogPlayers.PlayerView, proofs.Taking.err-as}
use Rattle.coil_driver.specs.Board.{board_view}
use Rattle.live_machine.{specs.Wires.wire_report, proofs.Whole.{silent, unsent, new-run, never-wrong, on-ok}}
use Rattle.live_machine.proofs.live.run_live.Goals as goal

pub returns-in_err-player-clause-runs : goal.returns-in_err-player-clause-runs
returns-in_err-player-clause-runs g c =
    let p = err_from_is_err_and c.from_residual.result c.from_residual.ensures.1 in
    silent c.args.checked.now g.L.Link.shows_lines
    (board_view g.B.Board.command_list g.B.Board.fault_count g.B.Board.answers c.args.board)
    (wire_report g.L.Link.report c.args.wire.now) c.from_residual.result c.in_err-player.field-0.0
    (p.1 ∙ ap Err p.2) c.in_err-player.ensures.fails

pub returns-in_err-player-clause-sends : goal.returns-in_err-player-clause-sends
returns-in_err-player-clause-sends g c =
    let p = err_from_is_err_and c.from_residual.result c.from_residual.ensures.1 in
    unsent c.from_residual.result _ c.in_err-player.field-0.0 (p.1 ∙ ap Err p.2) c.in_err-player.ensures.fails

pub returns-in_err-player-clause-wrong : goal.returns-in_err-player-clause-wrong
returns-in_err-player-clause-wrong g c =
    let p = err_from_is_err_and c.from_residual.result c.from_residual.ensures.1 in
    subst (λ r. IsErrOf r faults.WrongDevice
    → IsFit c.args.checked.now.plan (map g.D.Device.row_of c.args.devices.items)
    (map g.D.Device.state_of c.args.devices.items) → ⊥) (sym (p.1 ∙ ap Err p.2))
    (λ is. c.in_err-player.ensures.wrong (err-as c.in_err-player.field-0.0 faults.WrongDevice is))

pub returns-clause-runs : goal.returns-clause-runs
returns-clause-runs g c =
    let report = g.L.Link.report in
    new-run c.in_ok-player.player.plan c.args.checked.now c.in_ok-player.player.rig
    (board_view g.B.Board.command_list g.B.Board.fault_count g.B.Board.answers c.args.board) g.L.Link.shows_lines
    (wire_report report c.args.wire.now) (wire_report report c.run_player.new.wire) c.run_player.result
    (ap (λ (p : PlayerView). p.plan) c.in_ok-player.ensures.ready)
    (ap (λ (p : PlayerView). p.rig) c.in_ok-player.ensures.ready)
    c.run_player.ensures.runs

pub returns-clause-fit : goal.returns-clause-fit
returns-clause-fit g c = on-ok c.run_player.result _ c.in_ok-player.ensures.fit

pub returns-clause-wrong : goal.returns-clause-wrong
returns-clause-wrong g c = λ is fit. never-wrong _ _ _ _ _ c.run_player.result is c.run_player.ensures.runs

pub returns-clause-sends : goal.returns-clause-sends
returns-clause-sends g c = c.run_player.ensures.sends
