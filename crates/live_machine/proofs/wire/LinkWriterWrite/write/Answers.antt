use Rattle.live_machine.proofs.Packing.{tells-written}
use Rattle.live_machine.proofs.wire.LinkWriterWrite.write.Goals as goal

pub returns-clause-bytes : goal.returns-clause-bytes
returns-clause-bytes g c = tells-written (g.L.Link.report c.args.self.now.link) (g.L.Link.report c.tell.new.self)
    c.args.buf.now c.tell.result c.tell.ensures.tells
