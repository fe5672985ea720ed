-- What contracts see of a reply.
use Rattle.std.specs.{Prelude.{◌≡◌, ℕ, List, Option, option_map, Result, Ok, Err, map}, Borrow.Bor}
use Rattle.mpf_config.specs.{declared.config.{Config.Config, Note.Note}, Reading.rows_at}
use Rattle.mpf_config.specs.View as rows_views
use Rattle.written_machine.specs.CheckedView.{CheckedView}
use Rattle.config_checker.specs.View as checked_views
use Rattle.pinball_shell.specs.declared.reply.{BundleRefusal.BundleRefusal, Reply.Reply as HeldReply}
use Rattle.pinball_shell.specs.declared.reply.BundleRefusal.TheVariants as refusals
use Rattle.pinball_shell.specs.{declared.fault.Verdict.Verdict, Reply.{reply_with, verdict_of}, CheckOutput.reply_text}
use Rattle.pinball_shell.specs.Reply.{RefusalView, unread, unfit, CheckAnswer, Reply, answer_of, checked_by, reply_of}
use Rattle.pinball_shell.specs.CheckOutput.{notes_text, refusal_lines, refusal_text, acceptance_text, verification_text}

abbrev pub refusal_view : BundleRefusal → RefusalView
refusal_view (refusals.Unread f) = unread (rows_views.rows_fault_view f)
refusal_view (refusals.Unfit faults) = unfit (map checked_views.fault_view faults.items)

abbrev pub answer_view : Result CheckedView BundleRefusal → CheckAnswer
answer_view (Ok c) = Ok c
answer_view (Err r) = Err (refusal_view r)

abbrev pub reply_view : HeldReply → Reply
reply_view r = record { notes = map rows_views.note_view r.notes.items; answer = answer_view r.answer }

-- ---- which reply it is

-- it is the reply to the bundle, with the weights of a certificate if there is one
abbrev pub IsReplyBy : Option (Bor (List ℕ)) → (bundle : List ℕ) → HeldReply → Type 0
IsReplyBy certificate bundle reply = reply_of (option_map (λ c. c.now) certificate) (rows_at bundle) ≡ reply_view reply

-- it is the reply to the bundle with this certificate
abbrev pub IsReplyWith : (certificate bundle : List ℕ) → HeldReply → Type 0
IsReplyWith certificate bundle reply = reply_with certificate bundle ≡ reply_view reply

-- it is what the checker answers of the rows, with the weights of a certificate if there is one
abbrev pub IsAnswerBy : Option (Bor (List ℕ)) → Config → Result CheckedView BundleRefusal → Type 0
IsAnswerBy certificate config answer = answer_of
    (checked_by (option_map (λ c. c.now) certificate) (rows_views.rows_view config)) ≡ answer_view answer

-- the verdict of a reply
abbrev pub verdict_of_reply : HeldReply → Verdict
verdict_of_reply reply = verdict_of (reply_view reply)

-- ---- what is printed of it

-- what `check` prints for a reply
abbrev pub text_of_checked : HeldReply → List ℕ
text_of_checked reply = reply_text acceptance_text (reply_view reply)

-- what `verify` prints for a reply
abbrev pub text_of_verified : HeldReply → List ℕ
text_of_verified reply = reply_text verification_text (reply_view reply)

-- the lines of notes
abbrev pub text_of_notes : List Note → List ℕ
text_of_notes notes = notes_text (map rows_views.note_view notes)

-- the lines of a refusal, and `no`
abbrev pub text_of_refusal : BundleRefusal → List ℕ
text_of_refusal refusal = refusal_text (refusal_view refusal)

-- the lines of a refusal alone
abbrev pub lines_of_refusal : BundleRefusal → List ℕ
lines_of_refusal refusal = refusal_lines (refusal_view refusal)
