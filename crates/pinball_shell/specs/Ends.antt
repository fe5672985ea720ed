-- How the play of a log on a board ends.
use Rattle.std.specs.Prelude.{◌≡◌, ◌⊎◌, ℕ, ◌-◌, Option, None, Some, List, [], ◌∷◌, ◌++◌, map, take, IfSome}
use Rattle.std.specs.{Io.KnownBytes.Appends, Str.Lines.lines}
use Rattle.plan_tables.specs.{PlanView.PlanView, declared.entries.CoilId.CoilId}
use Rattle.coil_guard.specs.{declared.command.Command.{Command, TheVariants.Disable}, SentCommands.coil_of}
use Rattle.written_machine.specs.{declared.line.Line.Line, CheckedView.CheckedView, Machine.{Machine, initial}}
use Rattle.written_machine.specs.declared.line.Happening.TheVariants as happenings
use Rattle.coil_driver.specs.Board.{BoardView, HasTakenAll, HasNotTaken, commands_of, after_lines, TellsMore}
use Rattle.coil_driver.specs.ShutDown.{ArePutOff}
use Rattle.pin_rig.specs.declared.input.StepFault.TheVariants.{BoardFault}
use Rattle.pin_rig.specs.{Rig.RigView, ShutDown.coils_to_put_off, Steps.at_rest}
use Rattle.pinball_shell.specs.declared.{fault.Verdict.Verdict, refusal.LogRefusal.TheVariants.Step}
use Rattle.pinball_shell.specs.{LogText.meaning, RunOfLog.{printed_for_log, trace_in}}
use Rattle.pinball_shell.specs.TraceText.{printed_texts, log_verdict}
use Rattle.pinball_shell.specs.RunOfLog.{given_by_line, PrintedLine, Traced, Refused, after_line, printed_for_lines}
use Rattle.trace_lines.specs.LineText.{off_texts}

-- ---- a log up to some line

-- the state after these lines of a log
abbrev pub after_log_lines : PlanView → ℕ → List (List ℕ) → Machine → Machine
after_log_lines plan bound [] s = s
after_log_lines plan bound (line ∷ more) s =
    after_log_lines plan bound more (after_line plan bound s (given_by_line plan s.moment (meaning line)))

-- the state after a log
abbrev pub after_log : PlanView → ℕ → List ℕ → Machine
after_log plan bound log = after_log_lines plan bound (lines log) (initial plan)

-- what is printed for so many lines of a log, the first ones
abbrev pub printed_for_first : PlanView → ℕ → ℕ → List ℕ → List PrintedLine
printed_for_first plan bound count log = printed_for_lines plan bound 1 (take count (lines log)) (initial plan)

-- These are all that is printed before this line of the trace, which is printed for the log's line of this number.
pub record IsBefore (plan : PlanView) (bound : ℕ) (log : List ℕ) (line : Line) (number : ℕ)
    (display : List PrintedLine) :
    Type 0 where
  pub begun : List PrintedLine
  pub later : List PrintedLine
  pub shown_is : display ≡ printed_for_first plan bound (number - 1) log ++ begun
  pub next_is : printed_for_first plan bound number log ≡ display ++ Traced line ∷ later

-- ---- the board of a rig

-- The board has taken the commands of the coil lines among these, in order, and nothing else. The guard of what was
-- sent was asked for just them.
pub record IsServed (output : List PrintedLine) (old new : RigView) : Type 0 where
  pub checked_is : new.checked ≡ old.checked
  pub board_takes : HasTakenAll (commands_of (trace_in output)) old.board new.board
  pub sent_is : new.sent ≡ after_lines (trace_in output) old.sent
  pub running : new.faulted_coil ≡ None

-- The board has not taken this command, and the rig is halted.
pub record IsHalted (command : Command) (old new : RigView) : Type 0 where
  pub checked_is : new.checked ≡ old.checked
  pub not_taken : HasNotTaken old.board new.board
  pub sent_is : new.sent ≡ old.sent
  pub halt : new.faulted_coil ≡ Some (coil_of command)

-- ---- the two ends of a play

-- The log is played out: all is printed, and the board has taken all commands.
pub record IsPlayedOut (plan : PlanView) (bound : ℕ) (log : List ℕ) (old : RigView) (output : List PrintedLine)
    (new : RigView) : Type 0 where
  pub printed_is : output ≡ printed_for_log plan bound log
  pub machine_is : new.machine ≡ after_log plan bound log
  pub service : IsServed output old new

-- The board has not taken the command of a line of the trace. What comes before this line is printed, and then that the
-- log's line of this number is refused.
pub record IsCutOff (plan : PlanView) (bound : ℕ) (log : List ℕ) (old : RigView) (output : List PrintedLine)
    (new : RigView) : Type 0 where
  pub line : Line
  pub command : Command
  pub line_is : line.happening ≡ happenings.Coil command
  pub number : ℕ
  pub display : List PrintedLine
  pub before : IsBefore plan bound log line number display
  pub printed_is : output ≡ display ++ Refused number (Step BoardFault) ∷ []
  pub moment_is : new.machine.moment ≡ line.moment
  pub mid : RigView
  pub service : IsServed display old mid
  pub halt : IsHalted command mid new

-- one of the two
abbrev pub IsEnd : PlanView → ℕ → List ℕ → RigView → List PrintedLine → RigView → Type 0
IsEnd plan bound log old output new = IsPlayedOut plan bound log old output new
    ⊎ IsCutOff plan bound log old output new

-- ---- the whole play

-- A log was played on a new rig with this board, up to one of the ends. Then the rig was shut down, and a line written
-- for each coil that was turned off. In all, the board has taken the commands of the lines that were written.
pub record IsPlayOn (c : CheckedView) (log : List ℕ) (board last : BoardView) (before after : Option (List ℕ))
    (verdict : Verdict) : Type 0 where
  pub output : List PrintedLine
  pub rig : RigView
  pub end : IsEnd c.plan c.bound log (at_rest c board) output rig
  pub off : List CoilId
  pub faults : ℕ
  pub put_off : ArePutOff (coils_to_put_off rig) rig.board off faults last
  pub telling : TellsMore (commands_of (trace_in output) ++ map Disable off) board.command_list last.command_list
  pub text : Appends before after (printed_texts c.plan output ++ off_texts c.plan rig.machine.moment off)
  pub verdict_is : verdict ≡ log_verdict output

-- A text, if its reader tells it, was played as a log on a new rig with this board, whatever that leaves of the board.
abbrev pub IsTextPlayedOn : CheckedView → (text : Option (List ℕ)) → (board : BoardView)
    → (before after : Option (List ℕ)) → Verdict → Type 0
IsTextPlayedOn c text board before after verdict =
    IfSome text (λ log. (last : BoardView) × IsPlayOn c log board last before after verdict)
