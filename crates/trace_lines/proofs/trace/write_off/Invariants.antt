use Rattle.std.{proofs.Common.take, specs.{List.flat_map, Io.KnownBytes.Appends}}
use Rattle.trace_lines.specs.LineText.{off_text}
use Rattle.trace_lines.proofs.trace.write_off.Given as goal

-- the coils so far are written
abbrev pub invariant-loop-coil : goal.invariant-loop-coil
invariant-loop-coil g l =
    Appends (g.W.Write.contents l.fn.writer) (g.W.Write.contents l.writer)
    (flat_map (off_text l.plan l.moment) (take l.coil-index l.coils))
