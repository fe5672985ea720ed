use Rattle.std.proofs.Common.{Option, List, ℕ, Err, IsErrOf, ap, sym, ◌∙◌, map, subst}
use Rattle.std.proofs.lemmas.Result.{err_from_is_err_and}
use Rattle.plan_tables.specs.PlanView.{PlanView}
use Rattle.coil_driver.specs.Board.{BoardView, board_view}
use Rattle.machine_core.specs.Fit.{IsFit}
use Rattle.pinball_shell.specs.declared.fault.ShellFault.TheVariants as faults
use Rattle.pinball_shell.specs.{Played.IsShutDown, LogPlayers.PlayerView}
use Rattle.pinball_shell.proofs.{LogRuns.log_is_run, Playing.log-written, Taking.{log-played, err-as}}
use Rattle.pinball_shell.proofs.play.play_log.Goals as goal

pub returns-in_err-player-clause-run : goal.returns-in_err-player-clause-run
returns-in_err-player-clause-run g c = log_is_run c.args.checked.now c.in_err-player.ensures.accepted c.args.log.now

pub returns-in_err-player-clause-wrong : goal.returns-in_err-player-clause-wrong
returns-in_err-player-clause-wrong g c =
    let p = err_from_is_err_and c.from_residual.result c.from_residual.ensures.1 in
    subst (λ r. IsErrOf r faults.WrongDevice
    → IsFit c.args.checked.now.plan (map g.D.Device.row_of c.args.devices.items)
    (map g.D.Device.state_of c.args.devices.items) → ⊥) (sym (p.1 ∙ ap Err p.2))
    (λ is. c.in_err-player.ensures.wrong (err-as c.in_err-player.field-0.0 faults.WrongDevice is))

pub returns-in_err-verdict-clause-run : goal.returns-in_err-verdict-clause-run
returns-in_err-verdict-clause-run g c = log_is_run c.args.checked.now c.in_ok-player.ensures.accepted c.args.log.now

pub returns-in_err-write_out-clause-run : goal.returns-in_err-write_out-clause-run
returns-in_err-write_out-clause-run g c = log_is_run c.args.checked.now c.in_ok-player.ensures.accepted c.args.log.now

pub returns-in_err-board-clause-run : goal.returns-in_err-board-clause-run
returns-in_err-board-clause-run g c = log_is_run c.args.checked.now c.in_ok-player.ensures.accepted c.args.log.now

pub returns-clause-run : goal.returns-clause-run
returns-clause-run g c = log_is_run c.args.checked.now c.in_ok-player.ensures.accepted c.args.log.now

pub returns-clause-plays : goal.returns-clause-plays
returns-clause-plays g c =
    let first = c.in_ok-player.player in
    let now = c.play_lines.new.player in
    let written : Option (List ℕ) = g.W.Write.contents c.args.writer.now in
    let out : Option (List ℕ) = g.W.Write.contents c.write_out.new.writer in
    let end : Option (List ℕ) = g.W.Write.contents c.shut_down.new.writer in
    let begun : BoardView = board_view g.B.Board.command_list g.B.Board.fault_count g.B.Board.answers c.args.board in
    let last : BoardView = board_view g.B.Board.command_list g.B.Board.fault_count g.B.Board.answers c.in_ok-board.board
    in
    let ready = c.in_ok-player.ensures.ready in
    let played =
    log-written first.plan first.rig.checked.bound c.args.log.now first.rig now.rig written
    (g.W.Write.contents c.play_lines.new.writer) out first.page now.page c.in_ok-verdict.verdict
    (ap (λ (p : PlayerView). p.page) ready) c.in_ok-write_out.ensures.writes c.in_ok-verdict.ensures.plays in
    let shut =
    subst (λ (p : PlanView). IsShutDown p now.rig last out end) c.in_ok-verdict.ensures.plan
    (subst (λ (p : PlayerView). IsShutDown p.plan p.rig last out end) c.write_out.ensures.keeps
    c.in_ok-board.ensures.ends) in
    log-played first.plan c.args.checked.now first.rig now.rig begun last c.args.log.now written out end
    c.in_ok-verdict.verdict
    (ap (λ (p : PlayerView). p.plan) ready) (ap (λ (p : PlayerView). p.rig) ready) played shut
