-- The status with which the program ends, and what it says of a fault.
use Rattle.std.specs.Prelude.{ℕ, List, [], ◌∷◌, ◌++◌, Option, None, Some, Result, Ok, Err, codes}
use Rattle.machine_core.specs.declared.fault.CoreFault.{CoreFault}
use Rattle.machine_core.specs.declared.fault.CoreFault.TheVariants as rig
use Rattle.pinball_shell.specs.declared.fault.{ShellFault.ShellFault, Verdict.{Verdict, TheVariants.{Yes, Refused}}}
use Rattle.pinball_shell.specs.declared.fault.ShellFault.TheVariants.{NoMemory, Read, Write, TooLong, WrongDevice}

-- 0 for a yes, 1 for a refusal, 3 for a fault
abbrev pub status_of : Result Verdict ShellFault → ℕ
status_of (Ok Yes) = 0
status_of (Ok Refused) = 1
status_of (Err fault) = 3

-- the name that is printed for a fault
abbrev pub fault_name : ShellFault → List ℕ
fault_name NoMemory = codes "NoMemory"
fault_name Read = codes "Read"
fault_name Write = codes "Write"
fault_name TooLong = codes "TooLong"
fault_name WrongDevice = codes "WrongDevice"

-- the fault if no rig can be made
abbrev pub fault_of_rig : CoreFault → ShellFault
fault_of_rig rig.NoMemory = NoMemory
fault_of_rig (rig.WrongDevice row) = WrongDevice

-- Of a fault in reading the file of this path: its own if a read failed or it is too long.
abbrev pub file_at_fault : ShellFault → List ℕ → Option (List ℕ)
file_at_fault NoMemory path = None
file_at_fault Read path = Some path
file_at_fault Write path = None
file_at_fault TooLong path = Some path
file_at_fault WrongDevice path = None

-- the line that names the file at fault, if there is one
abbrev pub file_line : Option (List ℕ) → List ℕ
file_line None = []
file_line (Some path) = codes "file: " ++ path ++ 10 ∷ []

-- what standard error gets if there is no verdict: the name of the fault, and on a second line the file at fault
abbrev pub failure_text : ShellFault → Option (List ℕ) → List ℕ
failure_text fault file = codes "fault: " ++ fault_name fault ++ 10 ∷ file_line file
