use Rattle.std.proofs.Common.{rules}
use Rattle.plan_parts.proofs.Entries.{ball_save_there, multiball_there, no_save_there}
use Rattle.plan_parts.proofs.Gives.{gives_some, gives_nothing}
use Rattle.plan_parts.proofs.collect_saves.collect_save_device.Goals as goal

pub returns-then-eq : goal.returns-then-eq
returns-then-eq c = search (rules, gives_some, ball_save_there)

pub returns-then-eq-2 : goal.returns-then-eq-2
returns-then-eq-2 c = search (rules, gives_some, multiball_there)

pub returns : goal.returns
returns c = search (rules, gives_nothing, no_save_there)
