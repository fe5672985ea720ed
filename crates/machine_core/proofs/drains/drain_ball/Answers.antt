use Rattle.std.proofs.Common.{rules, sym}
use Rattle.machine_core.proofs.Draining.{step-room, end-calls, end-room, drain-done}
use Rattle.machine_core.proofs.drains.drain_ball.Goals as goal

pub step_game-requires-clause-room : goal.step_game-requires-clause-room
step_game-requires-clause-room g c = step-room c.args.core.now c.requires.room (sym c.in-None.ensures.first)

pub end_multiballs-requires-clause-calls : goal.end_multiballs-requires-clause-calls
end_multiballs-requires-clause-calls g c =
    end-calls c.args.core.now c.requires.room (sym c.in-None.ensures.first) c.step_game.new.core c.step_game.ensures
    c.requires.calls

pub end_multiballs-requires-clause-room : goal.end_multiballs-requires-clause-room
end_multiballs-requires-clause-room g c = end-room c.args.core.now c.requires.room (sym c.in-None.ensures.first)
    c.step_game.new.core c.step_game.ensures

pub returns-in-None : goal.returns-in-None
returns-in-None g c = search (rules, drain-done)
