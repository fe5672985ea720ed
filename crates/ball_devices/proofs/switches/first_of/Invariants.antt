use Rattle.ball_devices.proofs.FirstDue.{IsFirstSoFar}
use Rattle.ball_devices.proofs.switches.first_of.Given as goal

-- the first so far, and the first of those that are left
abbrev pub invariant-loop-number : goal.invariant-loop-number
invariant-loop-number l = IsFirstSoFar l.switches l.number l.first
