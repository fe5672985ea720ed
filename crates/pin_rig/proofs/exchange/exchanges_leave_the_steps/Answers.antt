use Rattle.pin_rig.proofs.Exchanging.{calls-steps}
use Rattle.pin_rig.proofs.exchange.exchanges_leave_the_steps.Goals as goal

pub returns : goal.returns
returns c = λ calls old trace new are. calls-steps calls old trace new are
