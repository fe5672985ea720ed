use Rattle.std.proofs.Common.{arith}
use Rattle.device_objects.specs.BallDevice.{empty}
use Rattle.ball_devices.proofs.Calm.{calm-more}
use Rattle.ball_devices.proofs.ball_device.calm.Goals as goal

pub loop-switch-preserved : goal.loop-switch-preserved
loop-switch-preserved c =
    let l = c.loop-switch in
    calm-more c.args.switches.now l.switches l.switch-index empty
    (omega (arith, c.loop-switch-test.true, l.auto.switches)) l.invariant
