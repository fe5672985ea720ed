-- What holds of all live runs.
use Rattle.std.specs.Prelude.{◌≡◌, ℕ, ◌+◌, Bool, true, nat_lt, Option, Some, List, [], ◌∷◌, ◌++◌, length, take}
use Rattle.std.specs.{List.{flat_map, list_all}, Str.Lines.lines}
use Rattle.plan_tables.specs.PlanView.{PlanView}
use Rattle.written_machine.specs.{Machine.{Machine, initial}, CheckedView.CheckedView, Accepted.IsAccepted}
use Rattle.coil_driver.specs.Board.{BoardView}
use Rattle.trace_lines.specs.LineText.{off_texts}
use Rattle.pinball_shell.specs.TraceText.{printed_texts, log_verdict}
use Rattle.pinball_shell.specs.RunOfLog.{PrintedLine, printed_for_log, trace_in}
use Rattle.pinball_shell.specs.{RunGiven.IsPlayOfLog, Ends.{after_log_lines, IsPlayOn}}
use Rattle.live_machine.specs.Talk.{Talk, Heard, Told, transcript, LinkView}
use Rattle.live_machine.specs.{Answers.{LineAnswer, answers, rounds}, Live.{IsLive, AllAnswered}}

-- ---- the first answers depend on the first lines alone

-- The first answers to some lines are the answers to the first of these lines.
abbrev pub AnswersComeFirst : Type 0
AnswersComeFirst =
    (plan : PlanView) (bound number : ℕ) (first more : List (List ℕ)) (s : Machine)
    → take (length first) (answers plan bound number (first ++ more) s) ≡ answers plan bound number first s

-- So what is heard and told goes on from where it is, whatever comes.
abbrev pub RoundsGoOn : Type 0
RoundsGoOn =
    (plan : PlanView) (bound number : ℕ) (first more : List (List ℕ)) (s : Machine)
    → rounds plan bound number (first ++ more) s
    ≡ rounds plan bound number first s ++ rounds plan bound (number + length first) more
    (after_log_lines plan bound first s)

-- ---- a live run is a play of its lines

-- The answers to the lines of a log, their lines `due` left out, are what `play` prints for the log.
abbrev pub AnswersArePlay : Type 0
AnswersArePlay =
    (c : CheckedView) (log : List ℕ)
    → flat_map (λ a. a.output) (answers c.plan c.bound 1 (lines log) (initial c.plan))
    ≡ printed_for_log c.plan c.bound log

-- A live run that heard the lines of a log is a play of this log. The board ends as it is after the live run, and the
-- lines that are written are those that were told, without the lines `due`.
abbrev pub LiveIsPlay : Type 0
LiveIsPlay =
    (c : CheckedView) (shows : Bool) (board last : BoardView) (old new : Option LinkView) (log : List ℕ)
    (live : IsLive c shows board last old new)
    → lines log ≡ live.inputs
    → IsPlayOn c log board last (Some []) (Some
    (printed_texts c.plan live.output ++ off_texts c.plan live.rig.machine.moment live.off))
    (log_verdict live.output)

-- If the configuration is accepted, and all lines of a log were heard and answered, the trace that was told is a run of
-- the plan that the log gives.
abbrev pub LiveIsRun : Type 0
LiveIsRun =
    (c : CheckedView) (shows : Bool) (board last : BoardView) (old new : Option LinkView) (log : List ℕ)
    (live : IsLive c shows board last old new)
    → IsAccepted c → lines log ≡ live.inputs → AllAnswered live.end
    → IsPlayOfLog c.plan log (trace_in live.output)

-- ---- a transcript loses nothing

-- a talk by its lines: what was told before the first line, and each line that was heard with what was told after it
abbrev pub by_lines : List Talk → List ℕ × List (List ℕ × List ℕ)
by_lines [] = ([], [])
by_lines (Told text ∷ more) = (text ++ (by_lines more).0, (by_lines more).1)
by_lines (Heard line ∷ more) = ([], (line, (by_lines more).0) ∷ (by_lines more).1)

-- all that was heard and told are bytes
abbrev pub is_of_bytes : Talk → Bool
is_of_bytes (Heard line) = list_all (λ b. nat_lt b 256) line
is_of_bytes (Told text) = list_all (λ b. nat_lt b 256) text

-- Talks with the same transcript have the same lines, and the same was told before and after each.
abbrev pub TranscriptsLoseNothing : Type 0
TranscriptsLoseNothing =
    (one other : List Talk) → list_all is_of_bytes one ≡ true → list_all is_of_bytes other ≡ true
    → transcript true one ≡ transcript true other → by_lines one ≡ by_lines other
