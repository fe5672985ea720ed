-- What happens while lines are answered, one after another.
use Rattle.std.specs.Prelude.{◌≡◌, ◌⊎◌, ℕ, ◌+◌, Bool, false, Option, None, Result, Ok, Err, List, [], ◌++◌, length}
use Rattle.std.specs.Io.KnownBytes.{Appends}
use Rattle.plan_tables.specs.{PlanView.PlanView, declared.entries.CoilId.CoilId}
use Rattle.written_machine.specs.Machine.{Machine, initial}
use Rattle.coil_driver.specs.{Board.BoardView, ShutDown.ArePutOff}
use Rattle.pin_rig.specs.{Rig.RigView, ShutDown.coils_to_put_off}
use Rattle.trace_lines.specs.LineText.{off_texts}
use Rattle.pinball_shell.specs.declared.{fault.{ShellFault.ShellFault, Verdict.Verdict}, play.Stop.Stop}
use Rattle.pinball_shell.specs.declared.fault.ShellFault.TheVariants.{NoMemory, Read, Write, TooLong, WrongDevice}
use Rattle.pinball_shell.specs.{LogText.meaning, Played.{GoesOrHalts, IsLinePlayedToFault}, LogPlayers.PlayerView}
use Rattle.pinball_shell.specs.{TraceText.log_verdict, Ends.{after_log_lines, IsServed}}
use Rattle.pinball_shell.specs.RunOfLog.{given_by_line, PrintedLine, printed_for_line, printed_for_lines}
use Rattle.live_machine.specs.Talk.{Talk, LinkView, IfReported, HasTold}
use Rattle.live_machine.specs.Answers.{due_of, due_text, next_state, answer, answer_text, rounds}
use Rattle.live_machine.specs.Live.{HaveEnded, AllAnswered, IfAllAnswered, HasTalked, HasNoneLeft, IsTooLong}

-- a machine as it begins, of which nothing was printed
pub record IsReady (player : PlayerView) : Type 0 where
  pub rest : player.rig.machine ≡ initial player.plan
  pub running : player.rig.faulted_coil ≡ None
  pub going : player.has_stopped ≡ false
  pub page : player.page ≡ []

-- A line was played to its end, and all of its answer has been told: nothing is left on the page, nor on the wire.
pub record IsNextReady (player : PlayerView) (remainder : List ℕ) : Type 0 where
  pub going : player.has_stopped ≡ false
  pub page : player.page ≡ []
  pub wire : remainder ≡ []

-- a line was answered: all of its answer has been told
pub record IsLineAnswered (plan : PlanView) (bound number : ℕ) (line : List ℕ) (old new : RigView)
    (before after : Option LinkView) (verdict : Verdict) : Type 0 where
  pub state : new.machine ≡ next_state plan bound old.machine line
  pub service : IsServed (printed_for_line plan bound number old.machine
      (given_by_line plan old.machine.moment (meaning line))) old new
  pub telling : IfReported before after (HasTold (answer_text plan (answer plan bound number old.machine line)))
  pub verdict_is : verdict ≡ log_verdict (printed_for_line plan bound number old.machine
      (given_by_line plan old.machine.moment (meaning line)))

-- The line was answered; or it was played up to a fault of the board, and what is printed up to there is written.
abbrev pub AnswersLine : PlanView → (number : ℕ) → (line : List ℕ) → (old new : RigView)
    → (before after : Option LinkView) → (old_text new_text : Option (List ℕ)) → Result Verdict Stop → Type 0
AnswersLine plan number line old new before after old_text new_text result =
    GoesOrHalts result (λ verdict. IsLineAnswered plan old.checked.bound number line old new before after verdict)
    (IsLinePlayedToFault plan old.checked.bound number line old new old_text new_text)

-- These lines were heard, and answered one after another.
pub record AreGoing (plan : PlanView) (bound : ℕ) (shows : Bool) (number : ℕ) (old now : RigView)
    (before after : Option LinkView) (verdict : Verdict) : Type 0 where
  pub inputs : List (List ℕ)
  pub number_is : number ≡ length inputs + 1
  pub state : now.machine ≡ after_log_lines plan bound inputs (initial plan)
  pub service : IsServed (printed_for_lines plan bound 1 inputs (initial plan)) old now
  pub talking : IfReported before after (HasTalked shows inputs (rounds plan bound 1 inputs (initial plan)))
  pub verdict_is : verdict ≡ log_verdict (printed_for_lines plan bound 1 inputs (initial plan))

-- The lines have ended.
pub record HaveGone (plan : PlanView) (bound : ℕ) (shows : Bool) (old now : RigView) (before after : Option LinkView) :
    Type 0 where
  pub inputs : List (List ℕ)
  pub talk : List Talk
  pub output : List PrintedLine
  pub end : HaveEnded plan bound inputs old talk output now
  pub talking : IfReported before after (HasTalked shows inputs talk)

-- They came to their end, or the board has not taken a command.
pub record HaveGoneOut (plan : PlanView) (bound : ℕ) (shows : Bool) (old now : RigView) (before after : Option LinkView)
    (verdict : Verdict) : Type 0 where
  pub course : HaveGone plan bound shows old now before after
  pub verdict_is : verdict ≡ log_verdict course.output
  pub over : IfAllAnswered course.end (HasNoneLeft before after)

-- A line could not be heard.
pub record HaveBroken (plan : PlanView) (bound : ℕ) (shows : Bool) (old now : RigView) (before after : Option LinkView)
    (fault : ShellFault) : Type 0 where
  pub course : HaveGone plan bound shows old now before after
  pub answers_all : AllAnswered course.end
  pub long : fault ≡ TooLong → IsTooLong (length course.inputs) before after

abbrev pub AnswersLines : PlanView → Bool → (old now : RigView) → (before after : Option LinkView)
    → Result Verdict ShellFault → Type 0
AnswersLines plan shows old now before after (Ok verdict) =
    HaveGoneOut plan old.checked.bound shows old now before after verdict
AnswersLines plan shows old now before after (Err NoMemory) = ⊥
AnswersLines plan shows old now before after (Err WrongDevice) = ⊥
AnswersLines plan shows old now before after (Err Read) =
    HaveBroken plan old.checked.bound shows old now before after Read
AnswersLines plan shows old now before after (Err TooLong) =
    HaveBroken plan old.checked.bound shows old now before after TooLong
AnswersLines plan shows old now before after (Err Write) = Unit {0}

-- ---- the whole

-- what was written has grown by one text, and then by another
abbrev pub AppendsBoth : Option (List ℕ) → Option (List ℕ) → List ℕ → List ℕ → Type 0
AppendsBoth before after first second = Appends before after (first ++ second)

-- A rig was shut down, and it was told which coils were turned off.
pub record IsEnded (plan : PlanView) (rig : RigView) (last : BoardView) (before after : Option LinkView) : Type 0 where
  pub off : List CoilId
  pub faults : ℕ
  pub put_off : ArePutOff (coils_to_put_off rig) rig.board off faults last
  pub telling : IfReported before after (HasTold (off_texts plan rig.machine.moment off))

-- A rig at rest has run live, and was shut down.
pub record HasRunLive (plan : PlanView) (bound : ℕ) (shows : Bool) (old : RigView) (last : BoardView)
    (before after : Option LinkView) : Type 0 where
  pub rig : RigView
  pub mid : Option LinkView
  pub begun : Option LinkView
  pub due : IfReported before begun (HasTold (due_text (due_of (initial plan))))
  pub course : HaveGone plan bound shows old rig begun mid
  pub ending : IsEnded plan rig last mid after

pub record HasRunOut (plan : PlanView) (bound : ℕ) (shows : Bool) (old : RigView) (last : BoardView)
    (before after : Option LinkView) (verdict : Verdict) : Type 0 where
  pub run : HasRunLive plan bound shows old last before after
  pub verdict_is : verdict ≡ log_verdict run.course.output
  pub over : IfAllAnswered run.course.end (HasNoneLeft before after)

pub record HasRunBroken (plan : PlanView) (bound : ℕ) (shows : Bool) (old : RigView) (last : BoardView)
    (before after : Option LinkView) (fault : ShellFault) : Type 0 where
  pub run : HasRunLive plan bound shows old last before after
  pub answers_all : AllAnswered run.course.end
  pub long : fault ≡ TooLong → IsTooLong (length run.course.inputs) before after

abbrev pub RunsRig : PlanView → Bool → RigView → (before after : Option LinkView) → Result Verdict ShellFault → Type 0
RunsRig plan shows old before after (Ok verdict) =
    (last : BoardView) × HasRunOut plan old.checked.bound shows old last before after verdict
RunsRig plan shows old before after (Err NoMemory) = ⊥
RunsRig plan shows old before after (Err WrongDevice) = ⊥
RunsRig plan shows old before after (Err Read) =
    (last : BoardView) × HasRunBroken plan old.checked.bound shows old last before after Read
RunsRig plan shows old before after (Err TooLong) =
    (last : BoardView) × HasRunBroken plan old.checked.bound shows old last before after TooLong
RunsRig plan shows old before after (Err Write) = Unit {0}
