use Rattle.std.{proofs.Common.take, specs.{List.flat_map, Io.KnownBytes.Appends}}
use Rattle.mpf_config.specs.{View.note_view, NoteLine.note_line}
use Rattle.pinball_shell.proofs.check.write_notes.Given as goal

-- the lines of the notes so far are written
abbrev pub invariant-loop-note : goal.invariant-loop-note
invariant-loop-note g l =
    Appends (g.W.Write.contents l.fn.writer) (g.W.Write.contents l.writer)
    (flat_map (λ n. note_line (note_view n)) (take l.note-index l.notes))
