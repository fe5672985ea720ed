use Rattle.std.proofs.Common.{◌≡◌, ◌≤◌, ◌+◌, length}
use Rattle.yaml_bytes.specs.Bytes.{characters}
use Rattle.yaml_bytes.proofs.scan.characters.Given as goal

abbrev pub invariant-loop-rest : goal.invariant-loop-rest
invariant-loop-rest l = record {
  within : l.count + length l.rest ≤ length l.text;
  so_far : l.count + characters l.rest ≡ characters l.text;
}

abbrev pub decreases-loop-rest : goal.decreases-loop-rest
decreases-loop-rest l = length l.rest
