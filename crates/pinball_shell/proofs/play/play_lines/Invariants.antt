use Rattle.std.{proofs.Common.{◌≡◌, false, length}, specs.Io.KnownBytes.append_known}
use Rattle.pinball_shell.proofs.Playing.{AreLinesGoing}
use Rattle.pinball_shell.proofs.play.play_lines.Given as goal

-- the lines that are left complete those that were played
abbrev pub invariant-loop-rest : goal.invariant-loop-rest
invariant-loop-rest g l = record {
  going : l.player.has_stopped ≡ false;
  plan : l.player.plan ≡ l.fn.player.plan;
  lines : AreLinesGoing l.fn.player.plan l.fn.player.rig.checked.bound l.log l.fn.player.rig
      (append_known (g.W.Write.contents l.fn.writer) l.fn.player.page) l.number l.rest
      l.player.rig (append_known (g.W.Write.contents l.writer) l.player.page) l.verdict;
}

abbrev pub decreases-loop-rest : goal.decreases-loop-rest
decreases-loop-rest g l = length l.rest
