use Rattle.std.proofs.Common.{ap, ◌∙◌}
use Rattle.event_queue.specs.Alarms.{least_of}
use Rattle.machine_core.proofs.core_state.Core.device_due.Goals as goal

pub returns : goal.returns
returns g c = rw (← c.self.view_is) (c.least.ensures.least ∙ ap least_of c.self.invariant.alarms_are)
