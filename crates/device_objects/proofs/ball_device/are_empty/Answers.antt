use Rattle.std.proofs.{Common.{◌≡◌, refl, arith}, lemmas.List.Elements.All-from_get_or}
use Rattle.device_objects.specs.BallDevice.{empty}
use Rattle.device_objects.proofs.ball_device.are_empty.Goals as goal

pub returns : goal.returns
returns c = (
  λ _. All-from_get_or (λ b. b ≡ empty) c.args.switches.now empty
      (λ k within. c.loop-switch.invariant k (omega (arith, within))),
  λ _. refl,
)
