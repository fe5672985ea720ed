use Rattle.std.proofs.Common.{rules}
use Rattle.machine_core.proofs.Following.{entered-follows, started-follows}
use Rattle.machine_core.proofs.parts.mode_before.Goals as goal

pub returns-in-Started-clause-state : goal.returns-in-Started-clause-state
returns-in-Started-clause-state g c = search (rules, started-follows, entered-follows)
