use Rattle.std.proofs.Common.{◌∷◌, [], ◌++◌, codes, refl, append_assoc}
use Rattle.pinball_shell.specs.{ReplyView.refusal_view, CheckOutput.{refusal_lines, refusal_text}}
use Rattle.pinball_shell.proofs.check.write_refusal.Goals as goal
use Rattle.yaml_bytes.proofs.Writing.{last_piece}

pub returns : goal.returns
unfolding refusal_text
returns g c =
    rw append_assoc
    (last_piece c.write_all.result _ _ _ (refusal_lines (refusal_view c.args.refusal.now)) (codes "no" ++ 10 ∷ []) _
    refl
    c.in_ok-write_faults.ensures c.write_all.ensures.bytes)
