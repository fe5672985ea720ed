use Rattle.std.{proofs.Common.{◌≡◌, true, take}, specs.{List.list_all, Char.is_ascii_digit}}
use Rattle.yaml_bytes.specs.Numbers.{value_of_digits}
use Rattle.pinball_shell.proofs.log_line.first_digits.Given as goal

-- the bytes so far are digits, and this is their number
abbrev pub invariant-loop-len : goal.invariant-loop-len
invariant-loop-len l =
    (list_all is_ascii_digit (take l.len l.text) ≡ true) × (l.number ≡ value_of_digits (take l.len l.text))
