use Rattle.std.proofs.Common.{rules}
use Rattle.machine_core.proofs.Following.{follow-nothing}
use Rattle.machine_core.proofs.parts.work_before.Goals as goal

pub mode_before-requires-clause-mode : goal.mode_before-requires-clause-mode
mode_before-requires-clause-mode g c = search rules

pub mode_before-requires-clause-room : goal.mode_before-requires-clause-room
mode_before-requires-clause-room g c = search rules

pub returns-in-Nothing-clause-state : goal.returns-in-Nothing-clause-state
returns-in-Nothing-clause-state g c = search (rules, follow-nothing)

pub returns-in-Nothing-clause-keeps : goal.returns-in-Nothing-clause-keeps
returns-in-Nothing-clause-keeps g c = search rules

pub returns-in-Mode-clause-state : goal.returns-in-Mode-clause-state
returns-in-Mode-clause-state g c = search rules

pub returns-in-Mode-clause-keeps : goal.returns-in-Mode-clause-keeps
returns-in-Mode-clause-keeps g c = search rules

pub returns-in-Game-clause-state : goal.returns-in-Game-clause-state
returns-in-Game-clause-state g c = search (rules, follow-nothing)

pub returns-in-Game-clause-keeps : goal.returns-in-Game-clause-keeps
returns-in-Game-clause-keeps g c = search rules
