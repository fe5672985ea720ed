use Rattle.ball_devices.proofs.Calm.{IsCalmBelow}
use Rattle.ball_devices.proofs.ball_device.calm.Given as goal

-- those so far are not due, and those that are left are as they were
abbrev pub invariant-loop-switch : goal.invariant-loop-switch
invariant-loop-switch l = IsCalmBelow l.fn.switches l.switches l.switch-index
