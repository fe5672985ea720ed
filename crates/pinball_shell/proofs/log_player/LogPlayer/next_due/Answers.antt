use Rattle.std.proofs.Common.{ap, ◌∙◌, option_map}
use Rattle.written_machine.specs.NextAlarm.{next_alarm}
use Rattle.pinball_shell.specs.LogPlayers.{PlayerView}
use Rattle.pinball_shell.proofs.log_player.LogPlayer.next_due.Goals as goal

pub returns : goal.returns
returns g c = c.next_due.ensures.due ∙ ap (λ (p : PlayerView). option_map (λ a. a.0) (next_alarm p.rig.machine))
    c.self.view_is
