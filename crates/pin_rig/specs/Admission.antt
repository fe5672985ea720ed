-- Which stimulus a rig takes without judging it: one that is an input that it does not refuse.
use Rattle.std.specs.Prelude.{◌≡◌, ℕ, Option, option_map, Result, Ok, Err}
use Rattle.written_machine.specs.{Machine.Machine, Run.{Stimulus, Alarm}, NextAlarm.next_alarm, AlarmsBy.due_by}
use Rattle.machine_core.specs.{declared.stimulus.Stimulus.Stimulus as HeldStimulus, Stimuli.stimulus_view}
use Rattle.pin_rig.specs.declared.input.{Input.Input, StepFault.StepFault}
use Rattle.pin_rig.specs.Rig.{RigView, stimulus_at, RigStep, RigHalt}

-- what is returned for a stimulus, or for why there is none
abbrev pub GivesStimulus : Result HeldStimulus StepFault → Result Stimulus StepFault → Type 0
GivesStimulus (Ok stimulus) answer = answer ≡ Ok (stimulus_view stimulus)
GivesStimulus (Err fault) answer = answer ≡ Err fault

-- the rig does not refuse the input, which is this stimulus
abbrev pub Admits : RigView → Input → Stimulus → Type 0
Admits rig input stimulus = stimulus_at rig input ≡ Ok stimulus

-- so it is for some input
abbrev pub IsAdmitted : RigView → Stimulus → Type 0
IsAdmitted rig stimulus = (input : Input) × Admits rig input stimulus

-- the alarm that is due next, if it is due at or before the moment
abbrev pub alarm_by : ℕ → Machine → Option Stimulus
alarm_by until s = option_map (λ a. Alarm a.0 a.1) (due_by until (next_alarm s))

-- ---- what taking the stimulus does: what a step does with an input that is this stimulus

abbrev pub IsTaken : Stimulus → RigView → RigView → Type 0
IsTaken stimulus old new = (input : Input) → Admits old input stimulus → RigStep input old new

-- if the board has not taken a command of it
abbrev pub IsTakenToHalt : Stimulus → RigView → RigView → Type 0
IsTakenToHalt stimulus old new = (input : Input) → Admits old input stimulus → RigHalt input old new
