use Rattle.machine_core.proofs.Stepping.{idle-is}
use Rattle.machine_core.proofs.parts.take_step.Goals as goal

pub returns-then-is_idle : goal.returns-then-is_idle
returns-then-is_idle g c = idle-is c.args.event c.args.core.now c.requires.handlers c.requires.room
    (c.is_idle.ensures c.if-is_idle.true)
