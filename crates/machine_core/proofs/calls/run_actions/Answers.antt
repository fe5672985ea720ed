use Rattle.machine_core.proofs.Going.{goes-tell_first}
use Rattle.machine_core.proofs.calls.run_actions.Goals as goal

pub actions_by-requires-clause-goes : goal.actions_by-requires-clause-goes
actions_by-requires-clause-goes g c = λ plan telling s. goes-tell_first plan telling s
