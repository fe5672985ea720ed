-- What `check` prints of a bundle is verified.
use Rattle.std.specs.Prelude.{◌≡◌, ℕ, ◌≤◌, List, ◌++◌, length, Ok}
use Rattle.written_machine.specs.CheckedView.{CheckedView}
use Rattle.config_checker.specs.CertificateText.{certificate_text}
use Rattle.pinball_shell.specs.Reply.{reply_to, reply_with}
use Rattle.pinball_shell.specs.CheckOutput.{notes_text, acceptance_text, verification_text, check_output, verify_output}

-- if a bundle is accepted, the reply is the same with the certificate of what was accepted
abbrev pub AcceptedIsAcceptedAgain : Type 0
AcceptedIsAcceptedAgain = (bundle : List ℕ) (c : CheckedView) → (reply_to bundle).answer ≡ Ok c
    → reply_with (certificate_text c) bundle ≡ reply_to bundle

-- so `check` prints the notes, `yes` and that certificate, and with it `verify` prints the notes, `yes` and the bound
abbrev pub AcceptedIsPrintedAgain : Type 0
AcceptedIsPrintedAgain =
    (bundle : List ℕ) (c : CheckedView) → (reply_to bundle).answer ≡ Ok c
    → (check_output bundle ≡ notes_text (reply_to bundle).notes ++ acceptance_text c)
    × (verify_output (certificate_text c) bundle ≡ notes_text (reply_to bundle).notes ++ verification_text c)

-- and that certificate is not longer than those that are read
abbrev pub AcceptedIsShort : ℕ → Type 0
AcceptedIsShort limit = (bundle : List ℕ) (c : CheckedView) → (reply_to bundle).answer ≡ Ok c
    → length (certificate_text c) ≤ limit
