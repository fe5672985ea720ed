-- Why a step gives no lines.
use Rattle.std.specs.Prelude.{ℕ, ◌^◌, Bool, nat_lt, nat_le, if◌then◌else◌, List, Result, Ok, Err, codes}
use Rattle.pin_rig.specs.declared.input.StepFault.{StepFault, TheVariants.{AlarmPending, BoardFault}}
use Rattle.pin_rig.specs.declared.input.StepFault.TheVariants.{Halted, NoSuchSwitch, NoAlarm, Backwards, TooLate}

-- the number with which it is printed
abbrev pub step_fault_number : StepFault → ℕ
step_fault_number Backwards = 1
step_fault_number TooLate = 2
step_fault_number NoSuchSwitch = 3
step_fault_number BoardFault = 4
step_fault_number Halted = 5
step_fault_number AlarmPending = 6
step_fault_number NoAlarm = 7

-- the name with which it is printed
abbrev pub step_fault_name : StepFault → List ℕ
step_fault_name Backwards = codes "Backwards"
step_fault_name TooLate = codes "TooLate"
step_fault_name NoSuchSwitch = codes "NoSuchSwitch"
step_fault_name BoardFault = codes "BoardFault"
step_fault_name Halted = codes "Halted"
step_fault_name AlarmPending = codes "AlarmPending"
step_fault_name NoAlarm = codes "NoAlarm"

-- a moment of 2^40 milliseconds or more is too late
abbrev pub is_too_late : ℕ → Bool
is_too_late at = nat_le (2 ^ 40) at

-- a moment is admitted, unless it is before that of the latest stimulus, or too late
abbrev pub admission : ℕ → ℕ → Result Unit StepFault
admission latest at = if nat_lt at latest then Err Backwards else if is_too_late at then Err TooLate else Ok tt
