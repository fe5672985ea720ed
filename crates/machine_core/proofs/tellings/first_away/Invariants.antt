use Rattle.std.{proofs.Common.{◌≡◌, drop}, specs.Prelude.find}
use Rattle.written_machine.specs.Machine.{first_away}
use Rattle.machine_core.proofs.Telling.{away}
use Rattle.machine_core.proofs.tellings.first_away.Given as goal

-- the first of those that are left is the first of all
abbrev pub invariant-loop-row : goal.invariant-loop-row
invariant-loop-row g l = find (away l.core.machine) (drop l.row-index l.feeders)
    ≡ first_away l.core.plan l.fn.target l.core.machine
