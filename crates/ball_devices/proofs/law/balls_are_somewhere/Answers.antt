use Rattle.ball_devices.proofs.Booked.{balls_are_somewhere}
use Rattle.ball_devices.proofs.law.balls_are_somewhere.Goals as goal

pub returns : goal.returns
returns c = balls_are_somewhere
