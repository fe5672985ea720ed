-- The reply to a bundle: a function of its bytes.
use Rattle.std.specs.Prelude.{ℕ, List, [], Option, Some, None, Result, Ok, Err}
use Rattle.mpf_config.specs.{Rows.{Note, Rows, RowsFault}, Reading.rows_at}
use Rattle.written_machine.specs.CheckedView.{CheckedView}
use Rattle.config_checker.specs.Checking.{FaultView, checked_at, checked_with_at}
use Rattle.pinball_shell.specs.declared.fault.Verdict.{Verdict, TheVariants.{Yes, Refused}}

-- why a bundle is refused: it has no rows, or its rows have faults
pub data RefusalView : Type 0 where
  unread : RowsFault → RefusalView
  unfit : List FaultView → RefusalView

-- what was accepted, or why nothing was
abbrev pub CheckAnswer : Type 0
CheckAnswer = Result CheckedView RefusalView

-- the notes on the rows of a bundle, and the answer
pub record Reply : Type 0 where
  pub notes : List Note
  pub answer : CheckAnswer

abbrev pub answer_of : Result CheckedView (List FaultView) → CheckAnswer
answer_of (Ok c) = Ok c
answer_of (Err faults) = Err (unfit faults)

-- what the checker answers of rows, with the weights of a certificate if there is one
abbrev pub checked_by : Option (List ℕ) → Rows → Result CheckedView (List FaultView)
checked_by None rows = checked_at rows
checked_by (Some certificate) rows = checked_with_at rows certificate

-- rows have their notes, whether they are accepted or not; if there are no rows, there are no notes
abbrev pub reply_of : Option (List ℕ) → Result Rows RowsFault → Reply
reply_of certificate (Ok rows) = record { notes = rows.notes; answer = answer_of (checked_by certificate rows) }
reply_of certificate (Err f) = record { notes = []; answer = Err (unread f) }

-- the bundle's rows are read and then checked
abbrev pub reply_to : List ℕ → Reply
reply_to bundle = reply_of None (rows_at bundle)

-- the bundle's rows are read and then checked with the weights of a certificate
abbrev pub reply_with : List ℕ → List ℕ → Reply
reply_with certificate bundle = reply_of (Some certificate) (rows_at bundle)

abbrev pub verdict_on : CheckAnswer → Verdict
verdict_on (Ok c) = Yes
verdict_on (Err r) = Refused

abbrev pub verdict_of : Reply → Verdict
verdict_of r = verdict_on r.answer

-- what was accepted, if it was
abbrev pub accepted_by : CheckAnswer → Option CheckedView
accepted_by (Ok c) = Some c
accepted_by (Err r) = None

abbrev pub accepted_of : Reply → Option CheckedView
accepted_of r = accepted_by r.answer
