-- What contracts see of a line of a log.
use Rattle.std.specs.Prelude.{◌≡◌, ℕ, ◌<◌, ◌≤◌, true, Option, Result, List, ◌∷◌, ◌++◌, length}
use Rattle.std.specs.{List.list_all, Char.is_ascii_digit}
use Rattle.yaml_bytes.specs.{Bytes.is_blank, Numbers.value_of_digits}
use Rattle.plan_tables.specs.PlanView.{PlanView}
use Rattle.written_machine.specs.Run.{Stimulus}
use Rattle.pinball_shell.specs.{LogText.{LogLine, Nothing, Wait, Change, Unreadable}, RunOfLog.given_by_line}
use Rattle.pinball_shell.specs.declared.{refusal.LogRefusal.LogRefusal, log_line.LogLine.LogLine as SaidLine}
use Rattle.pinball_shell.specs.declared.log_line.LogLine.TheVariants as lines

abbrev pub said_view : SaidLine → LogLine
said_view lines.Nothing = Nothing
said_view (lines.Wait at) = Wait at
said_view (lines.Change at name level) = Change at name.now level
said_view lines.Unreadable = Unreadable

-- the line says this
abbrev pub Says : SaidLine → LogLine → Type 0
Says line what = said_view line ≡ what

-- A text begins with 1 to 18 digits, whose number is this moment. After them come a blank and this rest.
pub record IsFront (text : List ℕ) (moment : ℕ) (rest : List ℕ) : Type 0 where
  pub digits : List ℕ
  pub blank : ℕ
  pub parts : text ≡ digits ++ blank ∷ rest
  pub are_digits : list_all is_ascii_digit digits ≡ true
  pub some : 0 < length digits
  pub few : length digits ≤ 18
  pub value : moment ≡ value_of_digits digits
  pub blank_is : is_blank blank ≡ true

-- what the line gives if the latest stimulus came at `now`
abbrev pub given_by_said : PlanView → (now : ℕ) → SaidLine → Result (Option Stimulus) LogRefusal
given_by_said plan now line = given_by_line plan now (said_view line)
