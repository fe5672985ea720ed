use Rattle.std.proofs.Common.{◌≡◌, length}
use Rattle.yaml_bytes.specs.Scanning.{trim_blanks}
use Rattle.yaml_bytes.proofs.scan.trim_blanks.Given as goal

abbrev pub invariant-loop-rest : goal.invariant-loop-rest
invariant-loop-rest l = trim_blanks l.rest ≡ trim_blanks l.text

abbrev pub decreases-loop-rest : goal.decreases-loop-rest
decreases-loop-rest l = length l.rest
