use Rattle.std.proofs.Common.{◌≡◌, map, take}
use Rattle.trace_lines.specs.LineTails.{variable_word_named}
use Rattle.trace_lines.proofs.printed_plan.variable_words.Given as goal

-- the words of the variables so far
abbrev pub invariant-loop-number : goal.invariant-loop-number
invariant-loop-number l = l.words.items ≡ map variable_word_named (take l.number l.plan.variables)
