use Rattle.std.proofs.Common.{◌≡◌, ◌+◌, length}
use Rattle.yaml_subset.specs.{Reading.{hangs, hanging_len}, ParserViews.lines_view}
use Rattle.yaml_subset.proofs.block.hanging_len.Given as goal

abbrev pub invariant-loop-rest : goal.invariant-loop-rest
invariant-loop-rest l = record {
  within : l.len + length l.rest ≡ length l.lines;
  so_far : l.len + hanging_len (hangs l.entry l.indent) (lines_view l.rest)
      ≡ hanging_len (hangs l.entry l.indent) (lines_view l.lines);
}

abbrev pub decreases-loop-rest : goal.decreases-loop-rest
decreases-loop-rest l = length l.rest
