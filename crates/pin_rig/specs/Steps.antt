-- Steps, one after another.
use Rattle.std.specs.Prelude.{◌≡◌, ◌↔◌, ◌||◌, ℕ, Bool, None, List, [], ◌∷◌, ◌++◌, filter, Ok}
use Rattle.plan_tables.specs.{PlanView.coil_numbers, declared.entries.CoilId.CoilId}
use Rattle.coil_guard.specs.{Asked.limits_of, Coils.all_off, Follows.Follows, SentCommands.is_on}
use Rattle.written_machine.specs.{declared.line.Line.Line, Machine.initial, Sent.sendings}
use Rattle.written_machine.specs.{CheckedView.CheckedView, Accepted.IsAccepted}
use Rattle.written_machine.specs.Run.{Source, Stimulus, SwitchChange, Alarm, Wait, IsAllowed, IsRun}
use Rattle.coil_driver.specs.{Board.{BoardView, commands_of, TellsMore}, ShutDown.is_faulted}
use Rattle.pin_rig.specs.{declared.input.Input.Input, ShutDown.coils_to_put_off}
use Rattle.pin_rig.specs.declared.input.Input.TheVariants as inputs
use Rattle.pin_rig.specs.Rig.{RigView, stimulus_at, RigStep, RigHalt}

-- each input is a step, and the trace is the lines of all, step by step
abbrev pub AreSteps : List Input → RigView → List Line → RigView → Type 0
AreSteps [] old trace new = (trace ≡ []) × (new ≡ old)
AreSteps (input ∷ more) old trace new = (mid : RigView) × (rest : List Line) × RigStep input old mid
    × AreSteps more mid rest new × (trace ≡ mid.machine.lines ++ rest)

-- These inputs are steps, and at one more the board has not taken a command. Of its lines some are in the trace alone,
-- and not shown.
pub record AreStepsToHalt (inputs : List Input) (last : Input) (old : RigView) (trace display : List Line)
    (new : RigView) : Type 0 where
  pub mid : RigView
  pub earlier : List Line
  pub steps : AreSteps inputs old earlier mid
  pub halt : RigHalt last mid new
  pub trace_is : trace ≡ earlier ++ new.machine.lines
  pub shown_is : display ≡ earlier ++ new.lines

-- a new rig, with this board
abbrev pub at_rest : CheckedView → BoardView → RigView
at_rest c board = record {
  checked = c;
  machine = initial c.plan;
  lines = [];
  board = board;
  sent = all_off (limits_of c.plan);
  faulted_coil = None;
}

-- the stimulus that an input is: which alarm comes, the run itself says
abbrev pub IsOfInput : Input → Stimulus → Type 0
IsOfInput (inputs.Change at switch level) stimulus = stimulus ≡ SwitchChange at switch level
IsOfInput inputs.Alarm stimulus = (at : ℕ) × (source : Source) × (stimulus ≡ Alarm at source)
IsOfInput (inputs.Wait at) stimulus = stimulus ≡ Wait at

-- a stimulus for each input, in their order
abbrev pub AreOfInputs : List Input → List (Stimulus × ℕ) → Type 0
AreOfInputs [] [] = Unit {0}
AreOfInputs (input ∷ more) ((stimulus, n) ∷ others) = IsOfInput input stimulus × AreOfInputs more others
AreOfInputs [] (other ∷ others) = ⊥
AreOfInputs (input ∷ more) [] = ⊥

-- the trace is that of a run of the plan with these inputs, from the one state to the other, in which no event waits
pub record IsRunOf (inputs : List Input) (old : RigView) (trace : List Line) (new : RigView) : Type 0 where
  pub checked_is : new.checked ≡ old.checked
  pub stimuli : List (Stimulus × ℕ)
  pub of_inputs : AreOfInputs inputs stimuli
  pub run : IsRun old.checked.plan stimuli old.machine trace new.machine
  pub settles : new.machine.waiting ≡ []

-- Steps of a new rig are a run of its plan, and a board has taken just the commands of its trace.
abbrev pub StepsAreRun : Type 0
StepsAreRun =
    (c : CheckedView) (board : BoardView) (inputs : List Input) (trace : List Line) (new : RigView)
    → AreSteps inputs (at_rest c board) trace new
    → IsRunOf inputs (at_rest c board) trace new
    × TellsMore (commands_of trace) board.command_list new.board.command_list

-- So are steps with a last one at which the board has not taken a command. A board that tells its list has added just
-- the commands of the lines before, which are shown.
abbrev pub HaltedStepsAreRun : Type 0
HaltedStepsAreRun =
    (c : CheckedView) (board : BoardView) (inputs : List Input) (last : Input) (trace display : List Line)
    (new : RigView)
    → AreStepsToHalt inputs last (at_rest c board) trace display new
    → IsRunOf (inputs ++ last ∷ []) (at_rest c board) trace new
    × TellsMore (commands_of display) board.command_list new.board.command_list
    × ((later : List Line) × (trace ≡ display ++ later))

-- What the guard of what was sent knows follows from the commands of the lines that were shown.
pub record SentIsShown : Type 0 where
  pub steps : (c : CheckedView) (board : BoardView) (inputs : List Input) (trace : List Line) (new : RigView)
      → IsAccepted c → AreSteps inputs (at_rest c board) trace new
      → Follows (limits_of c.plan) (sendings trace) new.sent new.machine.moment
  pub halt : (c : CheckedView) (board : BoardView) (inputs : List Input) (last : Input) (trace display : List Line)
      (new : RigView) → IsAccepted c
      → AreStepsToHalt inputs last (at_rest c board) trace display new
      → Follows (limits_of c.plan) (sendings display) new.sent new.machine.moment

-- Whether a coil is to be turned off at the end: it is on at the moment of the latest stimulus, by the commands of the
-- lines that were shown, or the board has not taken its last command.
abbrev pub is_left_on : List Line → RigView → CoilId → Bool
is_left_on display rig coil = is_on (sendings display) coil rig.machine.moment || is_faulted rig.faulted_coil coil

-- `shut_down` turns off the coils that these lines leave on, and the one whose command the board has not taken.
abbrev pub PutsOffWhatIsOn : RigView → List Line → Type 0
PutsOffWhatIsOn rig display = coils_to_put_off rig ≡ filter (is_left_on display rig) (coil_numbers rig.checked.plan)

-- So it is after any steps of a new rig (`steps`), and after steps with a last one at which the board has not taken a
-- command (`halt`).
pub record OffIsByCommands : Type 0 where
  pub steps : (c : CheckedView) (board : BoardView) (inputs : List Input) (trace : List Line) (new : RigView)
      → IsAccepted c → AreSteps inputs (at_rest c board) trace new
      → PutsOffWhatIsOn new trace
  pub halt : (c : CheckedView) (board : BoardView) (inputs : List Input) (last : Input) (trace display : List Line)
      (new : RigView) → IsAccepted c
      → AreStepsToHalt inputs last (at_rest c board) trace display new → PutsOffWhatIsOn new display

-- An input is taken exactly if the rig is not halted and it is a stimulus that may come.
abbrev pub TakesWhatMayCome : Type 0
TakesWhatMayCome =
    (rig : RigView) (input : Input) (stimulus : Stimulus)
    → (stimulus_at rig input ≡ Ok stimulus)
    ↔ ((rig.faulted_coil ≡ None) × IsOfInput input stimulus × IsAllowed rig.checked.plan rig.machine stimulus)
