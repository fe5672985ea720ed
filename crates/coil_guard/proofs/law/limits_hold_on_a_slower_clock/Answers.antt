use Rattle.coil_guard.proofs.Slower.{limits_hold_on_slower_clock}
use Rattle.coil_guard.proofs.law.limits_hold_on_a_slower_clock.Goals as goal

pub returns : goal.returns
returns c = limits_hold_on_slower_clock
