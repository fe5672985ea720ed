-- What is answered to each line of a log, one after another.
use Rattle.std.specs.{Prelude.{ℕ, ◌+◌, Option, None, Some, option_map, List, [], ◌∷◌, ◌++◌, codes}, Fmt.decimal}
use Rattle.plan_tables.specs.PlanView.{PlanView}
use Rattle.written_machine.specs.{Machine.Machine, NextAlarm.next_alarm}
use Rattle.pinball_shell.specs.{LogText.meaning, TraceText.printed_texts}
use Rattle.pinball_shell.specs.RunOfLog.{given_by_line, PrintedLine, printed_for_line, after_line}
use Rattle.live_machine.specs.Talk.{Talk, Heard, Told}

-- when an alarm is due next, if one is due at all
abbrev pub due_of : Machine → Option ℕ
due_of s = option_map (λ a. a.0) (next_alarm s)

-- `due MOMENT`, or `due -`, and LF
abbrev pub due_text : Option ℕ → List ℕ
due_text None = codes "due -" ++ 10 ∷ []
due_text (Some at) = codes "due " ++ decimal at ++ 10 ∷ []

-- the state after a line
abbrev pub next_state : PlanView → ℕ → Machine → List ℕ → Machine
next_state plan bound s line = after_line plan bound s (given_by_line plan s.moment (meaning line))

-- an answer: what is printed for a line, and when an alarm is due next after it
pub record LineAnswer : Type 0 where
  pub output : List PrintedLine
  pub due : Option ℕ

-- the answer to the line of this number
abbrev pub answer : PlanView → ℕ → ℕ → Machine → List ℕ → LineAnswer
answer plan bound number s line = record {
  output = printed_for_line plan bound number s (given_by_line plan s.moment (meaning line));
  due = due_of (next_state plan bound s line);
}

-- the lines that are printed, and then the line `due`
abbrev pub answer_text : PlanView → LineAnswer → List ℕ
answer_text plan a = printed_texts plan a.output ++ due_text a.due

-- The answers to these lines, which are numbered from `number` on. Each is that of the state after the lines before it.
abbrev pub answers : PlanView → ℕ → ℕ → List (List ℕ) → Machine → List LineAnswer
answers plan bound number [] s = []
answers plan bound number (line ∷ more) s =
    answer plan bound number s line ∷ answers plan bound (number + 1) more (next_state plan bound s line)

-- the talk of these lines: each line is heard, and then its answer is told
abbrev pub rounds : PlanView → ℕ → ℕ → List (List ℕ) → Machine → List Talk
rounds plan bound number [] s = []
rounds plan bound number (line ∷ more) s =
    Heard line ∷ Told (answer_text plan (answer plan bound number s line))
    ∷ rounds plan bound (number + 1) more (next_state plan bound s line)
