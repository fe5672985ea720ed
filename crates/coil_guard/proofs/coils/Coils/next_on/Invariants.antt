use Rattle.std.proofs.Common.{◌≡◌, None}
use Rattle.coil_guard.specs.{CoilStep.is_on_at, Lowest.lowest, Coils.coil_at}
use Rattle.coil_guard.proofs.coils.Coils.next_on.Given as goal

-- none of the coils so far is on
abbrev pub invariant-loop-number : goal.invariant-loop-number
invariant-loop-number l = lowest (λ coil. is_on_at l.now (coil_at l.self coil)) l.number ≡ None
