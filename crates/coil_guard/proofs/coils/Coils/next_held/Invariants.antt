use Rattle.coil_guard.specs.GuardState.{HoldsNone}
use Rattle.coil_guard.proofs.coils.Coils.next_held.Given as goal

-- the owner holds none of the coils so far
abbrev pub invariant-loop-number : goal.invariant-loop-number
invariant-loop-number l = HoldsNone l.owner l.self l.number
