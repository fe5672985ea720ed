-- How a log is played if the answers of the board to all commands to come are known.
use Rattle.std.specs.{Prelude.{◌≡◌, ℕ, Option, IsSome, List}, Io.KnownBytes.Appends}
use Rattle.coil_guard.specs.Boards.{takes_all}
use Rattle.written_machine.specs.CheckedView.{CheckedView}
use Rattle.coil_driver.specs.Board.{BoardView}
use Rattle.pin_rig.specs.{ShutDown.coils_to_put_off, Steps.at_rest}
use Rattle.pinball_shell.specs.{declared.fault.Verdict.Verdict, Ends.{IsPlayedOut, IsPlayOn}}
use Rattle.pinball_shell.specs.{RunOfLog.printed_for_log, TraceText.log_verdict}

-- the board tells its answers to all commands to come
abbrev pub TellsAll : BoardView → Type 0
TellsAll board = IsSome board.answers.later

-- On a board that takes all commands to come, a log is played out: what is printed, and the verdict, are those of the
-- log. And all coils are turned off that are to be turned off.
abbrev pub TakenIsPlayedOut : Type 0
TakenIsPlayedOut =
    (c : CheckedView) (log : List ℕ) (board last : BoardView) (before after : Option (List ℕ)) (verdict : Verdict)
    → board.answers ≡ takes_all
    → (play : IsPlayOn c log board last before after verdict)
    → IsPlayedOut c.plan c.bound log (at_rest c board) play.output play.rig
    × (verdict ≡ log_verdict (printed_for_log c.plan c.bound log))
    × (play.off ≡ coils_to_put_off play.rig)

-- On two boards that tell the same answers to all commands to come, a log is played the same: the same is printed, the
-- same coils are turned off, the verdict is the same, and so is the text that is written.
abbrev pub AnswersFixThePlay : Type 0
AnswersFixThePlay =
    (c : CheckedView) (log : List ℕ) (board twin last twin_last : BoardView) (before after start end : Option (List ℕ))
    (verdict end_verdict : Verdict)
    → TellsAll board → board.answers ≡ twin.answers
    → (play : IsPlayOn c log board last before after verdict)
    (again : IsPlayOn c log twin twin_last start end end_verdict)
    → (play.output ≡ again.output) × (play.off ≡ again.off) × (verdict ≡ end_verdict)
    × ((text : List ℕ) × Appends before after text × Appends start end text)
