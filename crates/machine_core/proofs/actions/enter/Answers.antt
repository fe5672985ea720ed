use Rattle.std.proofs.Common.{rules}
use Rattle.machine_core.proofs.Entering.{booked-room, event-room, entered-there, entered-calls, tell-room}
use Rattle.machine_core.proofs.Entering.{entered-awaited, drain-game, drain-room, entered-other}
use Rattle.machine_core.proofs.actions.enter.Goals as goal

pub book-requires-clause-room : goal.book-requires-clause-room
book-requires-clause-room g c = booked-room g.T.Tells.tell c.requires.goes c.args.owner c.args.device c.args.drain
    c.args.event c.args.core.now c.requires.room

pub post-requires : goal.post-requires
post-requires g c = event-room g.T.Tells.tell c.requires.goes c.args.owner c.args.device c.args.drain c.args.event
    c.args.core.now c.requires.room c.book.new.self c.book.ensures

pub tell-requires-clause-there : goal.tell-requires-clause-there
tell-requires-clause-there g c = search (rules, entered-there)

pub tell-requires-clause-calls : goal.tell-requires-clause-calls
tell-requires-clause-calls g c = search (rules, entered-calls)

pub tell-requires-clause-room : goal.tell-requires-clause-room
tell-requires-clause-room g c = search (rules, tell-room)

pub post_drain-requires-clause-game : goal.post_drain-requires-clause-game
post_drain-requires-clause-game g c = search (rules, drain-game)

pub post_drain-requires-clause-room : goal.post_drain-requires-clause-room
post_drain-requires-clause-room g c = search (rules, drain-room)

pub returns-then-is_awaited : goal.returns-then-is_awaited
returns-then-is_awaited g c = search (rules, entered-awaited)

pub returns-else-is_awaited : goal.returns-else-is_awaited
returns-else-is_awaited g c = search (rules, entered-other)
