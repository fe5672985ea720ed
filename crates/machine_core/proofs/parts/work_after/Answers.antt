use Rattle.std.proofs.Common.{rules, subst}
use Rattle.plan_tables.specs.Valid.{HasGame}
use Rattle.machine_core.{specs.Core.IsWorkOf, proofs.{Following.{follow-nothing, follow-still}, Playing.game-still}}
use Rattle.machine_core.proofs.parts.work_after.Goals as goal

pub mode_after-requires-clause-mode : goal.mode_after-requires-clause-mode
mode_after-requires-clause-mode g c = search rules

pub mode_after-requires-clause-room : goal.mode_after-requires-clause-room
mode_after-requires-clause-room g c = search rules

pub play-requires-clause-game : goal.play-requires-clause-game
play-requires-clause-game g c = subst HasGame c.plan.ensures
    (subst (IsWorkOf c.plan.result.now) c.in-Game.is c.work_of.ensures.of_plan)

pub play-requires-clause-room : goal.play-requires-clause-room
play-requires-clause-room g c = search rules

pub returns-in-Nothing : goal.returns-in-Nothing
returns-in-Nothing g c = search (rules, follow-nothing)

pub returns-in-Mode : goal.returns-in-Mode
returns-in-Mode g c = search rules

pub returns-in-Game : goal.returns-in-Game
returns-in-Game g c = search (rules, follow-still, game-still)
