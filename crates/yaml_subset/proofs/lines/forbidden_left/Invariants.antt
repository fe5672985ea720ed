use Rattle.std.{proofs.Common.{◌≡◌, ◌≤◌, length, drop}, specs.Str.chars}
use Rattle.yaml_subset.{specs.Reading.forbidden_left, proofs.Blemishes.bytes_len}
use Rattle.yaml_subset.proofs.lines.forbidden_left.Given as goal

abbrev pub invariant-loop-c : goal.invariant-loop-c
invariant-loop-c l = record {
  within : l.size ≤ length l.text;
  left : l.size ≡ bytes_len (drop (length l.yielded) (chars l.text));
  same : forbidden_left (drop (length l.yielded) (chars l.text)) ≡ forbidden_left (chars l.text);
}
