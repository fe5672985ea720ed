use Rattle.std.proofs.Common.{◌≡◌, ℕ, ◌<◌, get_or}
use Rattle.device_objects.specs.BallDevice.{empty}
use Rattle.device_objects.proofs.ball_device.are_same_ball_switches.Given as goal

abbrev pub invariant-loop-i : goal.invariant-loop-i
invariant-loop-i l = (k : ℕ) → k < l.i → get_or l.a k empty ≡ get_or l.b k empty
