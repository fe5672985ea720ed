use Rattle.std.proofs.Common.{ap}
use Rattle.coil_guard.proofs.Told.{told-after}
use Rattle.coil_guard.proofs.memory_board.MemoryBoardBoard.send.Goals as goal

pub returns-clause-list : goal.returns-clause-list
returns-clause-list c =
    told-after c.args.command c.self.inside.ring.items c.self.inside.ring.capacity c.self.inside.commands_taken
    c.args.self.now c.push_back-oldest.new.self.items c.min-self-inside.result c.self.view_is c.self.invariant
    (ap (λ b. b.items) c.push_back-oldest.ensures.items) c.min-self-inside.ensures
