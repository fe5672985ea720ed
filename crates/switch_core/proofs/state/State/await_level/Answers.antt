use Rattle.std.proofs.Common.{rules}
use Rattle.switch_core.proofs.state.State.await_level.Goals as goal

pub returns : goal.returns
returns c = search rules
