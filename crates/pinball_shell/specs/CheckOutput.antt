-- What is printed for a bundle: a function of its bytes.
use Rattle.std.specs.{Prelude.{ℕ, List, [], ◌∷◌, ◌++◌, Ok, Err, codes}, List.flat_map}
use Rattle.mpf_config.specs.{Rows.Note, FaultLine.fault_line, NoteLine.note_line}
use Rattle.written_machine.specs.CheckedView.{CheckedView}
use Rattle.config_checker.specs.{CertificateText.{bound_line, certificate_text}, ReportText.report_text}
use Rattle.pinball_shell.specs.Reply.{RefusalView, unread, unfit, CheckAnswer, Reply, reply_to, reply_with}

-- a line for each note, in order
abbrev pub notes_text : List Note → List ℕ
notes_text notes = flat_map note_line notes

-- `yes`, and the certificate
unfoldable pub acceptance_text : CheckedView → List ℕ
acceptance_text c = codes "yes" ++ 10 ∷ [] ++ certificate_text c

-- `yes`, and the bound of the certificate's weights
unfoldable pub verification_text : CheckedView → List ℕ
verification_text c = codes "yes" ++ 10 ∷ [] ++ bound_line c.bound

-- the fault that was met first, or the report on the rows
abbrev pub refusal_lines : RefusalView → List ℕ
refusal_lines (unread f) = fault_line f
refusal_lines (unfit faults) = report_text faults

-- these lines, and `no`
unfoldable pub refusal_text : RefusalView → List ℕ
refusal_text r = refusal_lines r ++ codes "no" ++ 10 ∷ []

abbrev pub answer_text : (CheckedView → List ℕ) → CheckAnswer → List ℕ
answer_text text_of (Ok c) = text_of c
answer_text text_of (Err r) = refusal_text r

-- The notes come before the answer. `text_of` says what is printed of what was accepted.
unfoldable pub reply_text : (CheckedView → List ℕ) → Reply → List ℕ
reply_text text_of r = notes_text r.notes ++ answer_text text_of r.answer

-- all that is printed when a bundle is checked
abbrev pub check_output : List ℕ → List ℕ
check_output bundle = reply_text acceptance_text (reply_to bundle)

-- all that is printed when a certificate is verified on a bundle
abbrev pub verify_output : List ℕ → List ℕ → List ℕ
verify_output certificate bundle = reply_text verification_text (reply_with certificate bundle)

-- nothing for a yes, and a refusal as it is printed
abbrev pub where_refused : CheckAnswer → List ℕ → List ℕ
where_refused (Ok c) text = []
where_refused (Err r) text = text

-- all that is printed when a bundle is loaded, to be played: for a refusal, what is printed when it is checked
abbrev pub load_output : List ℕ → List ℕ
load_output bundle = where_refused (reply_to bundle).answer (check_output bundle)
