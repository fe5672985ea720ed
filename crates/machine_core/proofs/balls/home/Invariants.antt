use Rattle.std.proofs.Common.{◌≡◌, ◌+◌, ◌*◌, ◌≤◌, ◌^◌}
use Rattle.machine_core.proofs.Homes.{home_from}
use Rattle.machine_core.proofs.balls.home.Given as goal

-- with those that are left they are all, and there are not too many
abbrev pub invariant-loop-number : goal.invariant-loop-number
invariant-loop-number l = record {
  all : l.home + home_from l.plan l.ledger l.number ≡ home_from l.plan l.ledger 0;
  few : l.home ≤ l.number * 2 ^ 32;
}
