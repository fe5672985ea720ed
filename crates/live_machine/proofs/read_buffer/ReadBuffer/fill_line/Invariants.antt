use Rattle.std.{proofs.Common.{◌-◌, length}, specs.Io.KnownBytes.{Keeps, prepend_known}}
use Rattle.live_machine.specs.LineLinks.{read_ahead}
use Rattle.live_machine.proofs.read_buffer.ReadBuffer.fill_line.Given as goal

-- no byte is lost
abbrev pub invariant-loop-self : goal.invariant-loop-self
invariant-loop-self g l = Keeps (prepend_known (read_ahead l.fn.self) (g.R.Read.remaining l.fn.reader))
    (prepend_known (read_ahead l.self) (g.R.Read.remaining l.reader))

abbrev pub decreases-loop-self : goal.decreases-loop-self
decreases-loop-self g l = 4098 - length (read_ahead l.self)
