use Rattle.std.{proofs.Common.{List, ℕ, [], ap, ◌∙◌, subst}, specs.{Result.OnOk, Io.KnownBytes.Appends}}
use Rattle.pinball_shell.specs.LogPlayers.{PlayerView, with_page}
use Rattle.pinball_shell.proofs.log_player.LogPlayer.write_out.Goals as goal

pub returns-clause-writes : goal.returns-clause-writes
returns-clause-writes g c =
    subst (λ (p : PlayerView). OnOk c.write_out.result
    (Appends (g.W.Write.contents c.args.writer.now) (g.W.Write.contents c.write_out.new.writer) p.page))
    c.self.view_is c.write_out.ensures.writes

pub returns-clause-keeps : goal.returns-clause-keeps
returns-clause-keeps g c =
    let was = c.self.inside in
    let begun : PlayerView = record { plan = was.plan; rig = was.rig; page = was.page; has_stopped = was.has_stopped }
    in
    ap (λ (l : List ℕ). with_page l begun) c.write_out.ensures.empty ∙ ap (with_page []) c.self.view_is
