use Rattle.std.proofs.Common.{◌≡◌, ◌≤◌, ◌+◌, length}
use Rattle.mpf_values.specs.Reading.{item_len}
use Rattle.mpf_values.proofs.items.item_len.Given as goal

abbrev pub invariant-loop-rest : goal.invariant-loop-rest
invariant-loop-rest l = record {
  within : l.len + length l.rest ≡ length l.text;
  few : l.open_braces ≤ l.len;
  so_far : l.len + item_len l.open_braces l.rest ≡ item_len 0 l.text;
}

abbrev pub decreases-loop-rest : goal.decreases-loop-rest
decreases-loop-rest l = length l.rest
