use Rattle.std.proofs.Common.{◌≡◌, ◌+◌, ◌≤◌, length}
use Rattle.yaml_bytes.specs.{Lines.{lines_of, lines_after}, View.option_slice}
use Rattle.yaml_subset.{specs.{Reading.contents_from, ParserViews.lines_view}, proofs.LineCuts.{in_front, room}}
use Rattle.yaml_subset.proofs.lines.content_lines.Given as goal

abbrev pub invariant-loop-rest : goal.invariant-loop-rest
invariant-loop-rest l = record {
  few : l.number + room l.rest ≤ length l.text + 2;
  so_far : in_front (lines_view l.lines.items)
      (contents_from l.number (lines_after (option_slice (λ after. after) l.rest))) ≡ contents_from 1 (lines_of l.text);
}

abbrev pub decreases-loop-rest : goal.decreases-loop-rest
decreases-loop-rest l = room l.rest
