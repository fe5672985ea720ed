use Rattle.std.proofs.Common.{◌≡◌, length}
use Rattle.machine_core.specs.Idle.{AreIdle}
use Rattle.machine_core.proofs.idle.idle_events.Given as goal

-- the events so far are marked
abbrev pub invariant-loop-number : goal.invariant-loop-number
invariant-loop-number l = (length l.marks.items ≡ l.number) × AreIdle l.plan l.marks.items
