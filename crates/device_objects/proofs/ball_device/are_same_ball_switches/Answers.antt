use Rattle.std.proofs.{Common.{◌∙◌, sym, refl, arith}, lemmas.List.ext_get_or}
use Rattle.device_objects.specs.BallDevice.{empty}
use Rattle.device_objects.proofs.ball_device.are_same_ball_switches.Goals as goal

pub returns : goal.returns
returns c = (
  λ _. ext_get_or empty c.args.a.now c.args.b.now (c.told-a ∙ sym c.told-b)
      (λ k below. c.loop-i.invariant k (omega (arith, below, c.told-a))),
  λ _. refl,
)
