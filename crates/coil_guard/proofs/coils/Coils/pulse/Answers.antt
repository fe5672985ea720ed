use Rattle.std.proofs.{Common.{rules, arith}, lemmas.Grind.common_steps}
use Rattle.coil_guard.proofs.coils.Coils.pulse.Goals as goal

pub returns-then-not-takes_pulse-clause-state : goal.returns-then-not-takes_pulse-clause-state
returns-then-not-takes_pulse-clause-state c = grind (arith, common_steps)

pub returns-then-not-takes_pulse-clause-answer : goal.returns-then-not-takes_pulse-clause-answer
returns-then-not-takes_pulse-clause-answer c = grind (arith, common_steps)

pub returns-then-not-takes_pulse-clause-count : goal.returns-then-not-takes_pulse-clause-count
returns-then-not-takes_pulse-clause-count c = search rules

pub returns-clause-state : goal.returns-clause-state
returns-clause-state c = grind (arith, common_steps)

pub returns-clause-answer : goal.returns-clause-answer
returns-clause-answer c = grind (arith, common_steps)

pub returns-clause-count : goal.returns-clause-count
returns-clause-count c = search rules
