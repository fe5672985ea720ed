use Rattle.live_machine.proofs.Buffers.{last-of}
use Rattle.live_machine.proofs.read_buffer.ReadBuffer.keep_last.Goals as goal

pub returns : goal.returns
returns c = last-of c.args.self.now.room.items c.args.self.now.start c.args.self.now.end c.args.count c.requires
    c.args.self.now.within c.args.self.now.ends
