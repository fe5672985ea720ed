use Rattle.std.proofs.Common.{map, refl}
use Rattle.mpf_config.specs.View.{note_view}
use Rattle.pinball_shell.specs.ReplyView.{refusal_view}
use Rattle.pinball_shell.specs.CheckOutput.{notes_text, refusal_text, acceptance_text, reply_text}
use Rattle.pinball_shell.proofs.check.write_checked.Goals as goal
use Rattle.yaml_bytes.proofs.Writing.{last_piece}

pub returns-in-Ok : goal.returns-in-Ok
unfolding reply_text
returns-in-Ok g c =
    rw c.in-Ok.is
    (last_piece c.write_acceptance.result _ _ _ (notes_text (map note_view c.args.reply.now.notes.items))
    (acceptance_text c.in-Ok.checked) _ refl
    (rw c.deref.ensures.value at c.in_ok-write_notes.ensures) c.write_acceptance.ensures)

pub returns-in-Err : goal.returns-in-Err
unfolding reply_text
returns-in-Err g c =
    rw c.in-Err.is
    (last_piece c.write_refusal.result _ _ _ (notes_text (map note_view c.args.reply.now.notes.items))
    (refusal_text (refusal_view c.in-Err.refusal)) _ refl
    (rw c.deref.ensures.value at c.in_ok-write_notes.ensures) c.write_refusal.ensures)
