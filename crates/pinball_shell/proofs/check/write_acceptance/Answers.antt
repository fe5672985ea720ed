use Rattle.std.proofs.Common.{◌∷◌, [], ◌++◌, codes, refl}
use Rattle.config_checker.specs.CertificateText.{certificate_text}
use Rattle.pinball_shell.specs.CheckOutput.{acceptance_text}
use Rattle.pinball_shell.proofs.check.write_acceptance.Goals as goal
use Rattle.yaml_bytes.proofs.Writing.{last_piece}

pub returns : goal.returns
unfolding acceptance_text
returns g c =
    last_piece c.write_certificate.result _ _ _ (codes "yes" ++ 10 ∷ []) (certificate_text c.args.checked.now) _ refl
    c.in_ok-write_all.ensures.bytes c.write_certificate.ensures
