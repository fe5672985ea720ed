use Rattle.machine_core.proofs.Going.{goes-tell_first}
use Rattle.machine_core.proofs.calls.call_device.Goals as goal

pub call_by-requires-clause-goes : goal.call_by-requires-clause-goes
call_by-requires-clause-goes g c = λ plan telling s. goes-tell_first plan telling s
