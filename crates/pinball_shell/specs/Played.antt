-- What playing does to a rig, and to what is written.
use Rattle.std.specs.Prelude.{◌≡◌, ℕ, ◌≤◌, false, Option, Some, None, Result, Ok, Err, List, [], ◌∷◌, ◌++◌, map}
use Rattle.std.specs.Io.KnownBytes.{Appends}
use Rattle.plan_tables.specs.{PlanView.PlanView, declared.entries.CoilId.CoilId}
use Rattle.coil_guard.specs.declared.command.Command.{Command}
use Rattle.written_machine.specs.{declared.line.Line.Line, Run.{Stimulus, moment_of}}
use Rattle.written_machine.specs.{Accepted.IsAccepted, NextAlarm.is_due_by}
use Rattle.written_machine.specs.declared.line.Happening.TheVariants as happenings
use Rattle.written_machine.specs.{CheckedView.CheckedView, AlarmsBy.state_after}
use Rattle.coil_driver.specs.{Board.BoardView, ShutDown.ArePutOff}
use Rattle.machine_core.specs.{declared.stimulus.Stimulus.Stimulus as HeldStimulus, Stimuli.stimulus_view}
use Rattle.pin_rig.specs.{Rig.RigView, ShutDown.coils_to_put_off}
use Rattle.pinball_shell.specs.declared.{fault.Verdict.Verdict, refusal.LogRefusal.LogRefusal, play.Stop.Stop}
use Rattle.pinball_shell.specs.declared.fault.Verdict.TheVariants as verdicts
use Rattle.pinball_shell.specs.declared.play.Stop.TheVariants as stops
use Rattle.pinball_shell.specs.{LogText.meaning, TraceText.{printed_texts, log_verdict}, RunOfLog.after_line}
use Rattle.pinball_shell.specs.RunOfLog.{given_by_line, trace_of, all_alarms_by, PrintedLine, Traced, printed_for_line}
use Rattle.trace_lines.specs.LineText.{off_texts}
use Rattle.pinball_shell.specs.Ends.{IsServed, IsHalted, IsEnd, IsPlayOn}

-- a stimulus that a line gives comes with its moment
abbrev pub GivesTimed : Result (Option (ℕ × HeldStimulus)) LogRefusal → Result (Option Stimulus) LogRefusal → Type 0
GivesTimed (Ok None) answer = answer ≡ Ok None
GivesTimed (Ok (Some (at, stimulus))) answer =
    (answer ≡ Ok (Some (stimulus_view stimulus))) × (at ≡ moment_of (stimulus_view stimulus))
GivesTimed (Err refusal) answer = answer ≡ Err refusal

-- the rig is one of the plan, which was accepted, and is not halted
pub record IsRigOf (plan : PlanView) (rig : RigView) : Type 0 where
  pub plan_is : rig.checked.plan ≡ plan
  pub acceptance : IsAccepted rig.checked
  pub running : rig.faulted_coil ≡ None

-- ---- what is printed

-- these were printed, and the board has taken their commands
pub record IsPrinted (plan : PlanView) (output : List PrintedLine) (old new : RigView)
    (before after : Option (List ℕ)) : Type 0 where
  pub service : IsServed output old new
  pub text : Appends before after (printed_texts plan output)

-- Of these, those before the line of a command were printed, and the board has not taken this command.
pub record IsPrintedToFault (plan : PlanView) (output : List PrintedLine) (old new : RigView)
    (before after : Option (List ℕ)) : Type 0 where
  pub display : List PrintedLine
  pub line : Line
  pub command : Command
  pub line_is : line.happening ≡ happenings.Coil command
  pub later : List PrintedLine
  pub whole : output ≡ display ++ Traced line ∷ later
  pub moment_is : new.machine.moment ≡ line.moment
  pub mid : RigView
  pub earlier : IsPrinted plan display old mid before after
  pub halt : IsHalted command mid new

-- Playing has gone on to its end; or up to a fault of the board. Of a writer that failed nothing is said.
abbrev pub GoesOrHalts : {T : Type 0} → Result T Stop → (T → Type 0) → Type 0 → Type 0
GoesOrHalts (Ok value) goes halts = goes value
GoesOrHalts (Err stops.Board) goes halts = halts
GoesOrHalts (Err stops.Write) goes halts = Unit {0}

-- ---- stimuli

-- these stimuli were played
pub record IsPlayed (plan : PlanView) (bound : ℕ) (stimuli : List Stimulus) (old new : RigView)
    (before after : Option (List ℕ)) : Type 0 where
  pub state : new.machine ≡ state_after plan bound stimuli old.machine
  pub output : IsPrinted plan (map Traced (trace_of plan bound stimuli old.machine)) old new before after

-- these stimuli were played, up to a fault of the board
abbrev pub IsPlayedToFault : PlanView → ℕ → List Stimulus → RigView → RigView → Option (List ℕ) → Option (List ℕ)
    → Type 0
IsPlayedToFault plan bound stimuli old new =
    IsPrintedToFault plan (map Traced (trace_of plan bound stimuli old.machine)) old new

-- the stimulus was played, or played up to a fault of the board
abbrev pub PlaysStimulus : {T : Type 0} → PlanView → Stimulus → (old new : RigView) → (before after : Option (List ℕ))
    → Result T Stop → Type 0
PlaysStimulus plan stimulus old new before after result =
    GoesOrHalts result (λ _. IsPlayed plan old.checked.bound (stimulus ∷ []) old new before after)
    (IsPlayedToFault plan old.checked.bound (stimulus ∷ []) old new before after)

-- the alarms that come by the moment were played, and no more is due by it
pub record AreAlarmsPlayed (plan : PlanView) (until : ℕ) (old new : RigView) (before after : Option (List ℕ)) : Type
    0 where
  pub play : IsPlayed plan old.checked.bound (all_alarms_by plan old.checked.bound until old.machine) old new before
      after
  pub quiet : is_due_by until new.machine ≡ false
  pub moment : new.machine.moment ≤ until

abbrev pub AreAlarmsPlayedToFault : PlanView → ℕ → RigView → RigView → Option (List ℕ) → Option (List ℕ) → Type 0
AreAlarmsPlayedToFault plan until old new =
    IsPlayedToFault plan old.checked.bound (all_alarms_by plan old.checked.bound until old.machine) old new

-- the alarms that come by the moment were played, or played up to a fault of the board
abbrev pub PlaysAlarms : {T : Type 0} → PlanView → (until : ℕ) → (old new : RigView) → (before after : Option (List ℕ))
    → Result T Stop → Type 0
PlaysAlarms plan until old new before after result =
    GoesOrHalts result (λ _. AreAlarmsPlayed plan until old new before after)
    (AreAlarmsPlayedToFault plan until old new before after)

-- ---- lines of a log

-- refused if either is
abbrev pub worse_of : Verdict → Verdict → Verdict
worse_of before verdicts.Yes = before
worse_of before verdicts.Refused = verdicts.Refused

-- a line of a log was played, or refused
pub record IsLinePlayed (plan : PlanView) (bound number : ℕ) (line : List ℕ) (old new : RigView)
    (before after : Option (List ℕ)) (verdict : Verdict) : Type 0 where
  pub state : new.machine ≡ after_line plan bound old.machine (given_by_line plan old.machine.moment (meaning line))
  pub output : IsPrinted plan (printed_for_line plan bound number old.machine
      (given_by_line plan old.machine.moment (meaning line))) old new before after
  pub verdict_is : verdict ≡ log_verdict (printed_for_line plan bound number old.machine
      (given_by_line plan old.machine.moment (meaning line)))

abbrev pub IsLinePlayedToFault : PlanView → ℕ → ℕ → List ℕ → RigView → RigView → Option (List ℕ) → Option (List ℕ)
    → Type 0
IsLinePlayedToFault plan bound number line old new =
    IsPrintedToFault plan (printed_for_line plan bound number old.machine
    (given_by_line plan old.machine.moment (meaning line))) old new

-- the line of this number was played, or refused, with this verdict; or it was played up to a fault of the board
abbrev pub PlaysLine : PlanView → (number : ℕ) → (line : List ℕ) → (old new : RigView)
    → (before after : Option (List ℕ)) → Result Verdict Stop → Type 0
PlaysLine plan number line old new before after result =
    GoesOrHalts result (λ verdict. IsLinePlayed plan old.checked.bound number line old new before after verdict)
    (IsLinePlayedToFault plan old.checked.bound number line old new before after)

-- the lines of a log were played on a rig at rest, up to one of the ends
pub record IsLogPlayed (plan : PlanView) (bound : ℕ) (log : List ℕ) (old new : RigView) (before after : Option (List ℕ))
    (verdict : Verdict) : Type 0 where
  pub output : List PrintedLine
  pub end : IsEnd plan bound log old output new
  pub text : Appends before after (printed_texts plan output)
  pub verdict_is : verdict ≡ log_verdict output

-- ---- the end

-- A rig was shut down, and it was written which coils were turned off. In the end the board is `last`.
pub record IsShutDown (plan : PlanView) (rig : RigView) (last : BoardView) (before after : Option (List ℕ)) : Type
    0 where
  pub off : List CoilId
  pub faults : ℕ
  pub put_off : ArePutOff (coils_to_put_off rig) rig.board off faults last
  pub text : Appends before after (off_texts plan rig.machine.moment off)

-- A log was played on a new rig with this board, which came back with the verdict. `view` is what is seen of a board.
abbrev pub GivesBack : {B : Type 0} → (view : B → BoardView) → CheckedView → (log : List ℕ) → (board : B)
    → (before after : Option (List ℕ)) → Verdict × B → Type 0
GivesBack view c log board before after end = IsPlayOn c log (view board) (view end.1) before after end.0
