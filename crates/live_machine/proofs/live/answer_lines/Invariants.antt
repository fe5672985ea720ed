use Rattle.std.{proofs.Common.◌≡◌, specs.Io.Buffered.writer_buffer}
use Rattle.live_machine.specs.{Wires.wire_report, Going.{IsNextReady, AreGoing}}
use Rattle.live_machine.proofs.live.answer_lines.Given as goal

-- the lines that were heard are answered
abbrev pub invariant-loop-number : goal.invariant-loop-number
invariant-loop-number g l = record {
  next : IsNextReady l.player (writer_buffer l.wire);
  plan : l.player.plan ≡ l.fn.player.plan;
  same : l.player.rig.checked ≡ l.fn.player.rig.checked;
  going : AreGoing l.fn.player.plan l.fn.player.rig.checked.bound g.L.Link.shows_lines l.number l.fn.player.rig
      l.player.rig
      (wire_report g.L.Link.report l.fn.wire) (wire_report g.L.Link.report l.wire) l.verdict;
}
