use Rattle.machine_core.proofs.Going.{goes-tell_nobody}
use Rattle.machine_core.proofs.tellings.tell.Goals as goal

pub call_by-requires-clause-goes : goal.call_by-requires-clause-goes
call_by-requires-clause-goes g c = λ plan telling s. goes-tell_nobody plan telling s
