use Rattle.std.proofs.Common.{◌≡◌, map, take}
use Rattle.trace_lines.specs.LineTails.{event_tail_named}
use Rattle.trace_lines.proofs.printed_plan.event_tails.Given as goal

-- the ends of the lines of the events so far
abbrev pub invariant-loop-number : goal.invariant-loop-number
invariant-loop-number l = l.tails.items ≡ map event_tail_named (take l.number l.plan.events)
