-- A rig, and what a step of it does.
use Rattle.std.specs.Prelude.{◌≡◌, ◌≢◌, ◌⊎◌, ℕ, ◌<◌, ◌≤◌, ◌-◌, ◌^◌, nat_lt, if◌then◌else◌, Option, Some, None, Result}
use Rattle.std.specs.{Prelude.{Ok, Err, List, [], ◌∷◌, ◌++◌, length}, Result.result_and}
use Rattle.plan_tables.specs.declared.entries.CoilId.{CoilId}
use Rattle.coil_guard.specs.{declared.{command.Command.Command, state.CoilState.CoilState}, SentCommands.coil_of}
use Rattle.written_machine.specs.{declared.line.Line.Line, CheckedView.CheckedView}
use Rattle.written_machine.specs.{NextAlarm.{next_alarm, is_due_by}, Machine.Machine, Run.IsReached}
use Rattle.written_machine.specs.declared.line.Happening.TheVariants as lines
use Rattle.written_machine.specs.{EventStep.EventSteps, PlanOrder.settle_all}
use Rattle.written_machine.specs.Run.{Source, source_due, Stimulus, SwitchChange, Alarm, Wait, IsAllowed, begin}
use Rattle.coil_driver.specs.Board.{BoardView, HasTakenAll, HasNotTaken, commands_of, after_lines}
use Rattle.pin_rig.specs.{declared.input.{Input.Input, StepFault.StepFault}, Refused.{is_too_late, admission}}
use Rattle.pin_rig.specs.declared.input.Input.TheVariants as inputs
use Rattle.pin_rig.specs.declared.input.StepFault.TheVariants as faults

pub record RigView : Type 0 where
  -- what was accepted, and the state of its machine
  pub checked : CheckedView
  pub machine : Machine
  -- the lines of the latest stimulus that are shown: all, or those before the command that the board has not taken
  pub lines : List Line
  pub board : BoardView
  -- what a guard knows that was asked for just the commands that the board has taken
  pub sent : List CoilState
  -- the coil whose command the board has not taken; from then on the rig is halted
  pub faulted_coil : Option CoilId

-- ---- which stimulus an input is, or why it is refused: the first reason in this order

-- A stimulus comes at a moment that is admitted. An alarm that is due at or before it has to come first.
abbrev pub timely : Machine → ℕ → Stimulus → Result Stimulus StepFault
timely s at stimulus = result_and (admission s.moment at)
    (if is_due_by at s then Err faults.AlarmPending else Ok stimulus)

-- the next alarm comes at its moment
abbrev pub alarm_at : Option (ℕ × Source) → Result Stimulus StepFault
alarm_at None = Err faults.NoAlarm
alarm_at (Some a) = if is_too_late a.0 then Err faults.TooLate else Ok (Alarm a.0 a.1)

-- what the input is to the machine
abbrev pub stimulus_in : CheckedView → Machine → Input → Result Stimulus StepFault
stimulus_in checked s (inputs.Change at switch level) =
    if nat_lt switch.0 (length checked.plan.switches) then timely s at (SwitchChange at switch level) else Err
    faults.NoSuchSwitch
stimulus_in checked s inputs.Alarm = alarm_at (next_alarm s)
stimulus_in checked s (inputs.Wait at) = timely s at (Wait at)

-- a halted rig refuses every input
abbrev pub unless_halted : Option CoilId → Result Stimulus StepFault → Result Stimulus StepFault
unless_halted None answer = answer
unless_halted (Some coil) answer = Err faults.Halted

abbrev pub stimulus_at : RigView → Input → Result Stimulus StepFault
stimulus_at rig input = unless_halted rig.faulted_coil (stimulus_in rig.checked rig.machine input)

-- ---- the alarm that is due next

-- No alarm is due at all; or one is due at this moment, and none before it.
abbrev pub IsNextMoment : Machine → Option ℕ → Type 0
IsNextMoment s None = (source : Source) (due : ℕ) → source_due s source ≡ Some due → ⊥
IsNextMoment s (Some at) = ((source : Source) × (source_due s source ≡ Some at))
    × ((source : Source) (due : ℕ) → source_due s source ≡ Some due → at ≤ due)

-- ---- steps

-- The board has faulted in a step with these commands: its count of faults has risen, or was at its last value and a
-- command was sent. The commands are those of the whole cascade: if there are any, the first was sent.
abbrev pub HasFaultedOn : List Command → BoardView → BoardView → Type 0
HasFaultedOn commands old new = (old.fault_count < new.fault_count) ⊎ ((old.fault_count ≡ 2 ^ 64 - 1) × (commands ≢ []))

-- The input is a stimulus that is allowed, and the machine is in the state after its event steps in plan order, at
-- whose end no event waits. The guard of what was sent was asked for the commands of the lines that are shown.
pub record RigCascade (input : Input) (old new : RigView) : Type 0 where
  pub stimulus : Stimulus
  pub stimulus_is : stimulus_at old input ≡ Ok stimulus
  pub may_come : IsAllowed old.checked.plan old.machine stimulus
  pub checked_is : new.checked ≡ old.checked
  pub machine_is : new.machine ≡ settle_all old.checked.plan old.checked.bound stimulus old.machine
  pub count : ℕ
  pub steps : EventSteps old.checked.plan count (begin old.checked.plan stimulus old.machine) new.machine
  pub settles : new.machine.waiting ≡ []
  pub sent_is : new.sent ≡ after_lines new.lines old.sent

-- All lines of the cascade are shown, and the board has taken just their commands, without a fault.
pub record RigStep (input : Input) (old new : RigView) : Type 0 where
  pub cascade : RigCascade input old new
  pub lines_are : new.lines ≡ new.machine.lines
  pub board_takes : HasTakenAll (commands_of new.lines) old.board new.board
  pub no_fault : HasFaultedOn (commands_of new.machine.lines) old.board new.board → ⊥
  pub running : new.faulted_coil ≡ None

-- The board has not taken a command of the cascade. The lines before its line are shown, the board has taken just their
-- commands, and the rig is halted.
pub record RigHalt (input : Input) (old new : RigView) : Type 0 where
  pub cascade : RigCascade input old new
  pub line : Line
  pub command : Command
  pub later : List Line
  pub lines_are : new.machine.lines ≡ new.lines ++ line ∷ later
  pub line_is : line.happening ≡ lines.Coil command
  pub board : BoardView
  pub board_takes : HasTakenAll (commands_of new.lines) old.board board
  pub not_taken : HasNotTaken board new.board
  pub fault : HasFaultedOn (commands_of new.machine.lines) old.board new.board
  pub halt : new.faulted_coil ≡ Some (coil_of command)

-- Why a step gives no lines: the board has not taken a command; or the input is refused, and nothing has changed.
abbrev pub HasFailed : Input → RigView → RigView → StepFault → Type 0
HasFailed input old new faults.BoardFault = RigHalt input old new
HasFailed input old new fault = (stimulus_at old input ≡ Err fault) × (new ≡ old)

-- If the board has not taken a command, the input was a stimulus; else it is refused for this reason.
abbrev pub IsWhy : Result Stimulus StepFault → StepFault → Type 0
IsWhy answer faults.BoardFault = (stimulus : Stimulus) × (answer ≡ Ok stimulus)
IsWhy answer fault = answer ≡ Err fault

-- a run of the plan leads to the machine's state, between two stimuli
abbrev pub IsOfRun : RigView → Type 0
IsOfRun rig = (trace : List Line) × IsReached rig.checked.plan trace rig.machine

-- As long as the board takes all commands, all lines are shown, and the guard of what was sent is the machine's.
pub record IsRunning (rig : RigView) : Type 0 where
  pub lines_are : rig.lines ≡ rig.machine.lines
  pub sent_is : rig.sent ≡ rig.machine.coils

abbrev pub RunsUnlessHalted : RigView → Type 0
RunsUnlessHalted rig = rig.faulted_coil ≡ None → IsRunning rig
