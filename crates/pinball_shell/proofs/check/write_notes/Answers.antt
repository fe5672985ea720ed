use Rattle.mpf_config.specs.{View.note_view, NoteLine.note_line}
use Rattle.config_checker.proofs.Writing.{written-seen}
use Rattle.pinball_shell.proofs.check.write_notes.Goals as goal
use Rattle.yaml_bytes.proofs.Writing.{one_more_piece, all_pieces}

pub loop-note-preserved : goal.loop-note-preserved
loop-note-preserved g c =
    one_more_piece (λ n. note_line (note_view n)) c.args.notes.now c.loop-note.note-index c.note-item.result _ _ _
    c.loop-note-test.true c.loop-note.invariant
    (rw (← c.note-item.is) c.in_ok-write_note.ensures)

pub returns : goal.returns
returns g c =
    written-seen note_line note_view c.args.notes.now _ _
    (all_pieces (λ n. note_line (note_view n)) c.args.notes.now c.loop-note.note-index _ _ c.loop-note-test.false
    c.loop-note.invariant)
