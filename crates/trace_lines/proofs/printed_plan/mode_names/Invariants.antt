use Rattle.std.proofs.Common.{◌≡◌, map, take}
use Rattle.trace_lines.specs.LineTails.{name_of_mode}
use Rattle.trace_lines.proofs.printed_plan.mode_names.Given as goal

-- the names of the modes so far
abbrev pub invariant-loop-number : goal.invariant-loop-number
invariant-loop-number l = l.names.items ≡ map name_of_mode (take l.number l.plan.modes)
