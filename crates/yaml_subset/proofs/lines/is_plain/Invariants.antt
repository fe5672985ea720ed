use Rattle.std.{proofs.Common.{◌≡◌, ◌&&◌, length}, specs.List.list_all}
use Rattle.yaml_subset.specs.ParserViews.{is_plain_byte}
use Rattle.yaml_subset.proofs.lines.is_plain.Given as goal

abbrev pub invariant-loop-rest : goal.invariant-loop-rest
invariant-loop-rest l = (l.plain && list_all is_plain_byte l.rest) ≡ list_all is_plain_byte l.raw

abbrev pub decreases-loop-rest : goal.decreases-loop-rest
decreases-loop-rest l = length l.rest
