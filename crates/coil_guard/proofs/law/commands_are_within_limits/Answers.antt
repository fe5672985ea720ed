use Rattle.coil_guard.proofs.Lawful.{commands_are_within_limits, stretches_are_within_limits}
use Rattle.coil_guard.proofs.law.commands_are_within_limits.Goals as goal

pub returns-clause-commands : goal.returns-clause-commands
returns-clause-commands c = commands_are_within_limits

pub returns-clause-stretches : goal.returns-clause-stretches
returns-clause-stretches c = stretches_are_within_limits
