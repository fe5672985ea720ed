-- What was accepted of a bundle is accepted again with its certificate, which is not too long to be read.
use Rattle.std.proofs.Common.{rules, ◌≡◌, ℕ, ◌≤◌, ◌^◌, List, ◌++◌, length, None, Some, Result, Ok, Err, inl, refl, ap}
use Rattle.std.proofs.Common.{sym, ◌∙◌}
use Rattle.mpf_config.specs.{Rows.{Rows, RowsFault}, Reading.rows_at}
use Rattle.written_machine.specs.CheckedView.{CheckedView}
use Rattle.config_checker.specs.{CertificateText.certificate_text, Checking.{FaultView, checked_at}}
use Rattle.config_checker.proofs.{ReadBack.read-again, CertificateLength.certificate-few}
use Rattle.pinball_shell.specs.Reply.{CheckAnswer, answer_of, reply_of, reply_to, reply_with}
use Rattle.pinball_shell.specs.CheckOutput.{verify_output}
use Rattle.pinball_shell.specs.CheckOutput.{notes_text, acceptance_text, verification_text, reply_text, check_output}

-- an answer with something accepted is that of the checker
accepted_is : (found : Result CheckedView (List FaultView)) (c : CheckedView) → answer_of found ≡ Ok c → found ≡ Ok c
accepted_is (Ok d) c is = ap (λ (a : CheckAnswer). found_of a) is
  where
    found_of : CheckAnswer → Result CheckedView (List FaultView)
    found_of (Ok e) = Ok e
    found_of (Err r) = Ok d
accepted_is (Err faults) c is = absurd cc

replied-again : (bundle : List ℕ) (read : Result Rows RowsFault) (c : CheckedView) → rows_at bundle ≡ read
    → (reply_of None read).answer ≡ Ok c
    → reply_of (Some (certificate_text c)) read ≡ reply_of None read
replied-again bundle (Ok rows) c is accepted =
    let first = accepted_is (checked_at rows) c accepted in
    let again = read-again rows bundle c is (inl first) in
    λ i. record { notes = rows.notes; answer = answer_of ((again ∙ sym first) i) }
replied-again bundle (Err f) c is accepted = absurd cc

pub is_accepted_again : (bundle : List ℕ) (c : CheckedView) → (reply_to bundle).answer ≡ Ok c
    → reply_with (certificate_text c) bundle ≡ reply_to bundle
is_accepted_again bundle c accepted = replied-again bundle (rows_at bundle) c refl accepted

pub is_printed_again : (bundle : List ℕ) (c : CheckedView) → (reply_to bundle).answer ≡ Ok c
    → (check_output bundle ≡ notes_text (reply_to bundle).notes ++ acceptance_text c)
    × (verify_output (certificate_text c) bundle ≡ notes_text (reply_to bundle).notes ++ verification_text c)
unfolding reply_text
is_printed_again bundle c accepted = search (rules, is_accepted_again)

short-printed : (bundle : List ℕ) (read : Result Rows RowsFault) (c : CheckedView) → rows_at bundle ≡ read
    → (reply_of None read).answer ≡ Ok c → length (certificate_text c) ≤ 2 ^ 20
short-printed bundle x2 c is accepted = search (rules, certificate-few, accepted_is)

pub is_short : (bundle : List ℕ) (c : CheckedView) → (reply_to bundle).answer ≡ Ok c
    → length (certificate_text c) ≤ 2 ^ 20
is_short bundle c accepted = short-printed bundle (rows_at bundle) c refl accepted
