use Rattle.std.proofs.Common.{rules}
use Rattle.coil_guard.proofs.limits.is_pulse_within.Goals as goal

pub returns-then-ms-limits : goal.returns-then-ms-limits
returns-then-ms-limits c = search rules

pub returns-else-ms-limits : goal.returns-else-ms-limits
returns-else-ms-limits c = search rules
