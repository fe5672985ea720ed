use Rattle.std.{proofs.Common.take, specs.List.flat_map}
use Rattle.trace_lines.specs.{Pages.Puts, LineText.line_text}
use Rattle.trace_lines.proofs.trace.put_lines.Given as goal

-- the lines so far are put on the page
abbrev pub invariant-loop-line : goal.invariant-loop-line
invariant-loop-line g l =
    Puts (g.W.Write.contents l.fn.writer) l.fn.page (g.W.Write.contents l.writer) l.page
    (flat_map (line_text l.plan) (take l.line-index l.lines))
