use Rattle.std.proofs.Common.{◌∷◌, [], ◌++◌, codes, refl}
use Rattle.config_checker.specs.CertificateText.{bound_line}
use Rattle.pinball_shell.specs.CheckOutput.{verification_text}
use Rattle.pinball_shell.proofs.check.write_verification.Goals as goal
use Rattle.yaml_bytes.proofs.Writing.{last_piece}

pub returns : goal.returns
unfolding verification_text
returns g c =
    last_piece c.writeln.result _ _ _ (codes "yes" ++ 10 ∷ []) (bound_line c.args.checked.now.bound) _ refl
    c.in_ok-write_all.ensures.bytes (rw c.bound.ensures.bound at c.writeln.ensures.bytes)
