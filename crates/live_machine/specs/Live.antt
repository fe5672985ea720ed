-- How a machine runs live: what is heard and told, what the board takes, and how it ends.
use Rattle.std.specs.Prelude.{◌≡◌, ◌⊎◌, ℕ, ◌+◌, ◌≤◌, ◌^◌, ◌-◌, Bool, Option, Result, Ok, Err, List, [], ◌∷◌, ◌++◌, map}
use Rattle.std.specs.{Prelude.length, Str.Lines.lines}
use Rattle.plan_tables.specs.{PlanView.PlanView, declared.entries.CoilId.CoilId}
use Rattle.coil_guard.specs.declared.command.Command.{Command, TheVariants.Disable}
use Rattle.written_machine.specs.{declared.line.Line.Line, CheckedView.CheckedView, Machine.{Machine, initial}}
use Rattle.written_machine.specs.declared.line.Happening.TheVariants as happenings
use Rattle.coil_driver.specs.{Board.{BoardView, commands_of, TellsMore}, ShutDown.ArePutOff}
use Rattle.pin_rig.specs.{Rig.RigView, ShutDown.coils_to_put_off, Steps.at_rest}
use Rattle.trace_lines.specs.LineText.{off_texts}
use Rattle.pinball_shell.specs.declared.fault.{ShellFault.ShellFault, Verdict.Verdict}
use Rattle.pinball_shell.specs.declared.fault.ShellFault.TheVariants.{NoMemory, Read, Write, TooLong, WrongDevice}
use Rattle.pinball_shell.specs.{LogPlayers.board_refusal, LogText.meaning, RunOfLog.{printed_for_lines, trace_in}}
use Rattle.pinball_shell.specs.Ends.{after_log_lines, IsServed, IsHalted}
use Rattle.pinball_shell.specs.TraceText.{printed_texts, refused_text, log_verdict}
use Rattle.pinball_shell.specs.RunOfLog.{given_by_line, PrintedLine, Traced, Refused, printed_for_line}
use Rattle.live_machine.specs.Talk.{Talk, Heard, Told, transcript, LinkView, IfReported, HasLongLine, longest_line}
use Rattle.live_machine.specs.Answers.{due_of, due_text, rounds}

-- ---- how the lines end

-- All lines that were heard are answered: the board has taken the commands of all that is printed for them.
pub record AreAnswered (plan : PlanView) (bound : ℕ) (inputs : List (List ℕ)) (old : RigView) (talk : List Talk)
    (output : List PrintedLine) (new : RigView) : Type 0 where
  pub talk_is : talk ≡ rounds plan bound 1 inputs (initial plan)
  pub printed_is : output ≡ printed_for_lines plan bound 1 inputs (initial plan)
  pub machine_is : new.machine ≡ after_log_lines plan bound inputs (initial plan)
  pub service : IsServed output old new

-- what is printed for one line more, after these
abbrev pub printed_after : PlanView → ℕ → List (List ℕ) → List ℕ → List PrintedLine
printed_after plan bound earlier line =
    let s = after_log_lines plan bound earlier (initial plan) in
    printed_for_line plan bound (length earlier + 1) s (given_by_line plan s.moment (meaning line))

-- The board has not taken a command of the last line that was heard. What comes before the line of this command is
-- told, and that the line of the log is refused.
pub record AreCutOff (plan : PlanView) (bound : ℕ) (inputs : List (List ℕ)) (old : RigView) (talk : List Talk)
    (output : List PrintedLine) (new : RigView) : Type 0 where
  pub earlier : List (List ℕ)
  pub last : List ℕ
  pub heard_is : inputs ≡ earlier ++ last ∷ []
  -- what is shown of the last answer, and the line of the command
  pub display : List PrintedLine
  pub line : Line
  pub command : Command
  pub line_is : line.happening ≡ happenings.Coil command
  pub later : List PrintedLine
  pub whole : printed_after plan bound earlier last ≡ display ++ Traced line ∷ later
  pub moment_is : new.machine.moment ≡ line.moment
  pub talk_is : talk ≡ rounds plan bound 1 earlier (initial plan) ++ Heard last
      ∷ Told (printed_texts plan display ++ refused_text (length earlier + 1) board_refusal) ∷ []
  pub printed_is : output ≡ (printed_for_lines plan bound 1 earlier (initial plan) ++ display)
      ++ Refused (length earlier + 1) board_refusal ∷ []
  pub mid : RigView
  pub service : IsServed (printed_for_lines plan bound 1 earlier (initial plan) ++ display) old mid
  pub halt : IsHalted command mid new

-- one of the two
pub data HaveEnded (plan : PlanView) (bound : ℕ) (inputs : List (List ℕ)) (old : RigView) (talk : List Talk)
    (output : List PrintedLine) (new : RigView) : Type 0 where
  Answered : AreAnswered plan bound inputs old talk output new → HaveEnded plan bound inputs old talk output new
  CutOff : AreCutOff plan bound inputs old talk output new → HaveEnded plan bound inputs old talk output new

module _ {plan : PlanView} {bound : ℕ} {inputs : List (List ℕ)} {old : RigView} {talk : List Talk}
    {output : List PrintedLine} {new : RigView} where
  -- all lines were answered
  abbrev pub AllAnswered : HaveEnded plan bound inputs old talk output new → Type 0
  AllAnswered (Answered end) = Unit {0}
  AllAnswered (CutOff end) = ⊥

  -- where all lines were answered, this holds
  abbrev pub IfAllAnswered : HaveEnded plan bound inputs old talk output new → Type 0 → Type 0
  IfAllAnswered (Answered end) holds = holds
  IfAllAnswered (CutOff end) holds = Unit {0}

-- ---- the whole

-- First it is told when an alarm is due. Then these lines are heard, and answered one after another. At the end the
-- machine is shut down, and it is told which coils were turned off.
abbrev pub talk_of : PlanView → List Talk → ℕ → List CoilId → List Talk
talk_of plan talk moment off = (Told (due_text (due_of (initial plan))) ∷ talk) ++ Told (off_texts plan moment off) ∷ []

-- The talk has grown by this, and the lines that were heard are the first ones of the text that was left.
pub record HasTalked (shows : Bool) (inputs : List (List ℕ)) (what : List Talk) (before after : LinkView) : Type 0 where
  pub talk : after.talk ≡ before.talk ++ transcript shows what
  pub remainder : lines before.remainder ≡ inputs ++ lines after.remainder

-- A new rig with this board has run live, and was shut down. In all, the board has taken the commands of the lines that
-- were told.
pub record IsLive (c : CheckedView) (shows : Bool) (first last : BoardView) (old new : Option LinkView) : Type 0 where
  pub inputs : List (List ℕ)
  pub talk : List Talk
  pub output : List PrintedLine
  pub rig : RigView
  pub end : HaveEnded c.plan c.bound inputs (at_rest c first) talk output rig
  pub off : List CoilId
  pub faults : ℕ
  -- each coil that is on by the commands that the board has taken is sent a disable, and so is the one whose command it
  -- has not
  pub ending : ArePutOff (coils_to_put_off rig) rig.board off faults last
  pub board : TellsMore (commands_of (trace_in output) ++ map Disable off) first.command_list last.command_list
  pub talking : IfReported old new (HasTalked shows inputs (talk_of c.plan talk rig.machine.moment off))

-- ---- the answers of a call

-- no line is left
abbrev pub HasNoneLeft : Option LinkView → Option LinkView → Type 0
HasNoneLeft old new = IfReported old new (λ v w. lines w.remainder ≡ [])

-- Why a line could not be heard, where it is too long: it is, or more lines were heard than can be numbered.
abbrev pub IsTooLong : ℕ → Option LinkView → Option LinkView → Type 0
IsTooLong count old new = IfReported old new (λ v w. HasLongLine longest_line w.remainder) ⊎ (2 ^ 64 - 2 ≤ count)

-- The lines came to their end, or the board has not taken a command. The verdict is yes where no line was refused.
pub record HasRun (c : CheckedView) (shows : Bool) (board last : BoardView) (old new : Option LinkView)
    (verdict : Verdict) : Type 0 where
  pub live : IsLive c shows board last old new
  pub verdict_is : verdict ≡ log_verdict live.output
  pub over : IfAllAnswered live.end (HasNoneLeft old new)

-- A line could not be heard: a read failed, the line is too long, or there are more lines than can be numbered. The
-- lines before it are answered, and the machine is shut down.
pub record HasBroken (c : CheckedView) (shows : Bool) (board last : BoardView) (old new : Option LinkView)
    (fault : ShellFault) : Type 0 where
  pub live : IsLive c shows board last old new
  pub answers_all : AllAnswered live.end
  pub long : fault ≡ TooLong → IsTooLong (length live.inputs) old new

-- nothing was heard or told
abbrev pub IsSilent : Option LinkView → Option LinkView → Type 0
IsSilent old new = IfReported old new (λ v w. w ≡ v)

-- What each answer of the call says. After a failed write nothing is said. Want of memory and a wrong device come
-- before anything is heard or told.
abbrev pub RunsLive : CheckedView → Bool → BoardView → (old new : Option LinkView) → Result Verdict ShellFault → Type 0
RunsLive c shows board old new (Ok verdict) = (last : BoardView) × HasRun c shows board last old new verdict
RunsLive c shows board old new (Err NoMemory) = IsSilent old new
RunsLive c shows board old new (Err WrongDevice) = IsSilent old new
RunsLive c shows board old new (Err Read) = (last : BoardView) × HasBroken c shows board last old new Read
RunsLive c shows board old new (Err TooLong) = (last : BoardView) × HasBroken c shows board last old new TooLong
RunsLive c shows board old new (Err Write) = Unit {0}

-- Where lines were heard to an end, or to a fault of hearing, all that was told has been sent: nothing is left on its
-- way.
abbrev pub IsSent : Result Verdict ShellFault → List ℕ → Type 0
IsSent (Ok verdict) remainder = remainder ≡ []
IsSent (Err NoMemory) remainder = Unit {0}
IsSent (Err WrongDevice) remainder = Unit {0}
IsSent (Err Read) remainder = remainder ≡ []
IsSent (Err TooLong) remainder = remainder ≡ []
IsSent (Err Write) remainder = Unit {0}
