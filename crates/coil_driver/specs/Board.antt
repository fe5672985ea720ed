-- The commands that a board is sent, and those of them that it takes.
use Rattle.std.specs.{Prelude.{◌≡◌, ℕ, true, false, Option, None, Some, Ok, List, [], ◌∷◌, ◌++◌}, List.flat_map}
use Rattle.plan_tables.specs.declared.entries.Owner.{Owner}
use Rattle.coil_guard.specs.declared.{command.Command.Command, state.CoilState.CoilState}
use Rattle.coil_guard.specs.{Asked.after_asking, Boards.{HasFaulted, IsToldAfter, Answers, IsAnswered}}
use Rattle.written_machine.specs.declared.line.{Line.Line, Happening.Happening}
use Rattle.written_machine.specs.declared.line.Happening.TheVariants as lines

-- what a board says of itself: the commands that it has taken, if it tells them; the count of its faults; and its
-- answers to the commands to come, if it tells them
pub record BoardView : Type 0 where
  pub command_list : Option (List Command)
  pub fault_count : ℕ
  pub answers : Answers

-- a board, by what it says of itself
abbrev pub board_view : {B : Type 0} → (B → Option (List Command)) → (B → ℕ) → (B → Answers) → B → BoardView
board_view command_list fault_count answers board =
    record { command_list = command_list board; fault_count = fault_count board; answers = answers board }

-- ---- one command

-- The board has taken a command: that is no fault, whatever its count of faults is.
pub record HasTaken (command : Command) (old new : BoardView) : Type 0 where
  pub count : new.fault_count ≡ old.fault_count
  pub no_fault : HasFaulted old.fault_count new.fault_count → ⊥
  pub list : IsToldAfter command (Ok tt) old.command_list new.command_list
  pub answer : IsAnswered true old.answers new.answers

-- The board has not taken a command, which is a fault.
pub record HasNotTaken (old new : BoardView) : Type 0 where
  pub count : HasFaulted old.fault_count new.fault_count
  pub list : new.command_list ≡ old.command_list
  pub answer : IsAnswered false old.answers new.answers

-- ---- the commands of lines

-- the command that was sent, if that is what happened
abbrev pub command_of : Happening → List Command
command_of (lines.Coil command) = command ∷ []
command_of _ = []

-- the commands that were sent, in the order of their lines
abbrev pub commands_of : List Line → List Command
commands_of trace = flat_map (λ l. command_of l.happening) trace

-- the board has taken all these commands, one after another, and nothing else
abbrev pub HasTakenAll : List Command → BoardView → BoardView → Type 0
HasTakenAll [] old new = new ≡ old
HasTakenAll (command ∷ more) old new = (mid : BoardView) × HasTaken command old mid × HasTakenAll more mid new

-- What a guard knows once it was asked for a command that was sent; and for all of these lines.
abbrev pub after_happening : Owner → ℕ → Happening → List CoilState → List CoilState
after_happening owner moment (lines.Coil command) s = after_asking command owner moment s
after_happening owner moment _ s = s

abbrev pub after_line : Line → List CoilState → List CoilState
after_line l s = after_happening l.owner l.moment l.happening s

abbrev pub after_lines : List Line → List CoilState → List CoilState
after_lines [] s = s
after_lines (l ∷ ls) s = after_lines ls (after_line l s)

-- ---- the list that is told

-- It has grown by just these commands, or is told no more. One that is not told stays untold.
abbrev pub TellsMore : List Command → Option (List Command) → Option (List Command) → Type 0
TellsMore [] before command_list = command_list ≡ before
TellsMore (command ∷ more) None command_list = command_list ≡ None
TellsMore (command ∷ more) (Some list) None = Unit {0}
TellsMore (command ∷ more) (Some list) (Some longer) = longer ≡ list ++ command ∷ more
