-- Lines whose commands a guard has sent, and a machine whose coils agree with its lines.
use Rattle.std.specs.Prelude.{◌≡◌, ℕ, List, [], ◌∷◌}
use Rattle.plan_tables.specs.declared.entries.Owner.{Owner}
use Rattle.coil_guard.specs.declared.command.Answer.TheVariants as answers
use Rattle.coil_guard.specs.{declared.state.CoilState.CoilState, Asked.answer_asking}
use Rattle.written_machine.specs.{declared.line.{Line.Line, Happening.Happening}, Machine.Machine}
use Rattle.written_machine.specs.declared.line.Happening.TheVariants as lines
use Rattle.coil_driver.specs.Board.{after_line, after_lines}

-- if it is a command, the guard sends it
abbrev pub IsSent : List CoilState → Owner → ℕ → Happening → Type 0
IsSent s owner now (lines.Coil command) = answer_asking command owner now s ≡ answers.Sent command
IsSent s owner now _ = Unit {0}

-- each command of these lines is sent, by a guard in this state at first; and they are all of one moment
abbrev pub AreSent : ℕ → List CoilState → List Line → Type 0
AreSent moment s [] = Unit {0}
AreSent moment s (l ∷ ls) = (l.moment ≡ moment) × IsSent s l.owner l.moment l.happening
    × AreSent moment (after_line l s) ls

-- The coils are those of the start, once the commands of the lines were sent.
pub record Agrees (start : List CoilState) (s : Machine) : Type 0 where
  pub coils : s.coils ≡ after_lines s.lines start
  pub commands : AreSent s.moment start s.lines
