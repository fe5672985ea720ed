use Rattle.std.proofs.Common.{rules, subst}
use Rattle.coil_driver.specs.Board.{BoardView, board_view}
use Rattle.pinball_shell.specs.{Played.IsShutDown, LogPlayers.PlayerView}
use Rattle.pinball_shell.proofs.log_player.LogPlayer.shut_down.Goals as goal

pub returns-in-Ok-clause-ends : goal.returns-in-Ok-clause-ends
returns-in-Ok-clause-ends g c =
    let last : BoardView = board_view g.B.Board.command_list g.B.Board.fault_count g.B.Board.answers
    c.shut_down-board.result.0
    in
    subst (λ (p : PlayerView). IsShutDown p.plan p.rig last (g.W.Write.contents c.args.writer.now)
    (g.W.Write.contents c.write_off.new.writer)) c.self.view_is (search rules)
