use Rattle.std.proofs.{Common.{rules, arith}, lemmas.Grind.common_steps}
use Rattle.ball_devices.proofs.ledger.BallLedger.enter.Goals as goal

pub returns-clause-state : goal.returns-clause-state
returns-clause-state c = grind (arith, common_steps)

pub returns-clause-origin : goal.returns-clause-origin
returns-clause-origin c = search rules

pub returns-clause-ledger : goal.returns-clause-ledger
returns-clause-ledger c = grind (arith, common_steps)
