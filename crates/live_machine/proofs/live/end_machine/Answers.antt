use Rattle.std.specs.Io.Buffered.{writer_buffer, writer_inner}
use Rattle.coil_driver.specs.Board.{board_view}
use Rattle.live_machine.proofs.Whole.{machine-ended}
use Rattle.live_machine.proofs.live.end_machine.Goals as goal

pub returns-in-Ok-clause-ends : goal.returns-in-Ok-clause-ends
returns-in-Ok-clause-ends g c =
    machine-ended c.args.player.plan c.args.player.rig
    (board_view g.B.Board.command_list g.B.Board.fault_count g.B.Board.answers c.in_ok-board.board)
    (g.L.Link.report (writer_inner c.args.wire.now).link) (g.L.Link.report (writer_inner c.shut_down.new.writer).link)
    (g.L.Link.report (writer_inner c.tell_all.new.wire).link)
    (writer_buffer c.args.wire.now) (writer_buffer c.shut_down.new.writer) (writer_buffer c.tell_all.new.wire)
    c.in_ok-board.ensures.ends c.in-Ok.ensures.keeps
