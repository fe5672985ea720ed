use Rattle.std.proofs.Common.{ap, subst}
use Rattle.trace_lines.specs.Pages.{Puts}
use Rattle.pinball_shell.specs.{TraceText.refused_text, LogPlayers.{PlayerView, with_page, board_refusal}}
use Rattle.pinball_shell.proofs.log_player.LogPlayer.refuse_for_board.Goals as goal

pub returns-in_err-put_refused-clause-keeps : goal.returns-in_err-put_refused-clause-keeps
returns-in_err-put_refused-clause-keeps g c = ap (with_page c.put_refused.new.page) c.self.view_is

pub returns-clause-writes : goal.returns-clause-writes
returns-clause-writes g c =
    subst (λ (p : PlayerView). Puts (g.W.Write.contents c.args.writer.now) p.page
    (g.W.Write.contents c.put_refused.new.writer) c.put_refused.new.page (refused_text c.args.number board_refusal))
    c.self.view_is c.in_ok-put_refused.ensures

pub returns-clause-keeps : goal.returns-clause-keeps
returns-clause-keeps g c = ap (with_page c.put_refused.new.page) c.self.view_is
