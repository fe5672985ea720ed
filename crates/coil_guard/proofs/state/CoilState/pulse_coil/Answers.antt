use Rattle.std.proofs.Common.{rules}
use Rattle.coil_guard.proofs.state.CoilState.pulse_coil.Goals as goal

pub returns : goal.returns
returns c = search rules
