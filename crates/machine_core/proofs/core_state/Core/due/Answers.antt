use Rattle.std.proofs.Common.{rules, option_map}
use Rattle.machine_core.proofs.core_state.Core.due.Goals as goal

pub returns : goal.returns
returns g c = search (rules, option_map)
