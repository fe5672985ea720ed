use Rattle.std.proofs.Common.{◌≡◌, map, take}
use Rattle.trace_lines.specs.LineTails.{switch_tails_of}
use Rattle.trace_lines.proofs.printed_plan.switch_tails.Given as goal

-- the ends of the lines of the switches so far
abbrev pub invariant-loop-number : goal.invariant-loop-number
invariant-loop-number l = l.tails.items ≡ map switch_tails_of (take l.number l.plan.switches)
