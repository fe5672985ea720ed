use Rattle.std.proofs.Common.{◌≡◌, length}
use Rattle.yaml_subset.{specs.Quoted.double_at, proofs.QuotedTexts.with_value}
use Rattle.yaml_subset.proofs.quotes.each_double.Given as goal

abbrev pub invariant-loop-rest : goal.invariant-loop-rest
invariant-loop-rest l = with_value l.value.items (double_at l.number l.rest) ≡ double_at l.number l.text

abbrev pub decreases-loop-rest : goal.decreases-loop-rest
decreases-loop-rest l = length l.rest
