use Rattle.std.proofs.Common.{◌≡◌, ◌+◌, length}
use Rattle.yaml_bytes.specs.Scanning.{spaces_len}
use Rattle.yaml_bytes.proofs.scan.spaces_len.Given as goal

abbrev pub invariant-loop-rest : goal.invariant-loop-rest
invariant-loop-rest l = record {
  within : l.len + length l.rest ≡ length l.text;
  so_far : l.len + spaces_len l.rest ≡ spaces_len l.text;
}

abbrev pub decreases-loop-rest : goal.decreases-loop-rest
decreases-loop-rest l = length l.rest
