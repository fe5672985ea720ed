use Rattle.std.proofs.Common.{◌≡◌, ℕ, ◌<◌, get_or}
use Rattle.device_objects.specs.BallDevice.{empty}
use Rattle.device_objects.proofs.ball_device.are_empty.Given as goal

abbrev pub invariant-loop-switch : goal.invariant-loop-switch
invariant-loop-switch l = (k : ℕ) → k < l.switch-index → get_or l.switches k empty ≡ empty
