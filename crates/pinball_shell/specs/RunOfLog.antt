-- The run of a log: which stimuli its lines give, and what is printed for them.
use Rattle.std.specs.Prelude.{ℕ, ◌+◌, Bool, Option, Some, None, Result, Ok, Err, List, [], ◌∷◌, ◌++◌, map}
use Rattle.std.specs.Str.Lines.{lines}
use Rattle.plan_tables.specs.{PlanView.{PlanView, switch_named}, declared.entries.SwitchId.SwitchId}
use Rattle.written_machine.specs.{declared.line.Line.Line, Machine.{Machine, initial}}
use Rattle.written_machine.specs.Run.{Stimulus, SwitchChange, Wait, moment_of}
use Rattle.written_machine.specs.{NextAlarm.most_alarms, AlarmsBy.{alarms_by, state_after}, PlanOrder.settle_all}
use Rattle.pin_rig.specs.{declared.input.StepFault.{StepFault, TheVariants.NoSuchSwitch}, Refused.admission}
use Rattle.pinball_shell.specs.declared.refusal.LogRefusal.{LogRefusal, TheVariants.{Step, BadLine}}
use Rattle.pinball_shell.specs.LogText.{LogLine, Nothing, Unreadable, meaning}
use Rattle.pinball_shell.specs.LogText as says

-- ---- what a line gives

-- what a line gives, if its moment is admitted
abbrev pub if_admitted : {X : Type 0} → Result Unit StepFault → X → Result (Option X) LogRefusal
if_admitted (Ok admission) what = Ok (Some what)
if_admitted (Err fault) what = Err (Step fault)

-- a change of the switch that has the name, if there is one
abbrev pub change_of : ℕ → ℕ → Option SwitchId → Bool → Result (Option Stimulus) LogRefusal
change_of now at None level = Err (Step NoSuchSwitch)
change_of now at (Some switch) level = if_admitted (admission now at) (SwitchChange at switch level)

-- what a line gives if the latest stimulus came at `now`: nothing, a stimulus, or why it is refused
abbrev pub given_by_line : PlanView → ℕ → LogLine → Result (Option Stimulus) LogRefusal
given_by_line plan now Nothing = Ok None
given_by_line plan now Unreadable = Err BadLine
given_by_line plan now (says.Wait at) = if_admitted (admission now at) (Wait at)
given_by_line plan now (says.Change at name level) = change_of now at (switch_named plan name) level

-- ---- stimuli and their lines

-- the lines of these stimuli
abbrev pub trace_of : PlanView → ℕ → List Stimulus → Machine → List Line
trace_of plan bound [] s = []
trace_of plan bound (stimulus ∷ more) s = let next = settle_all plan bound stimulus s
    in next.lines ++ trace_of plan bound more next

-- all alarms that come by the moment
abbrev pub all_alarms_by : PlanView → ℕ → ℕ → Machine → List Stimulus
all_alarms_by plan bound until s = alarms_by plan bound until (most_alarms plan until s) s

-- a stimulus of the log, after the alarms due by its moment
abbrev pub with_alarms : PlanView → ℕ → Stimulus → Machine → List Stimulus
with_alarms plan bound stimulus s = all_alarms_by plan bound (moment_of stimulus) s ++ stimulus ∷ []

-- ---- the log

-- what is printed for a log: the lines of the trace, and which of its own lines are refused
pub data PrintedLine : Type 0 where
  Traced : (line : Line) → PrintedLine
  Refused : (number : ℕ) (refusal : LogRefusal) → PrintedLine

-- what is printed for a line that has this number
abbrev pub printed_for_line : PlanView → ℕ → ℕ → Machine → Result (Option Stimulus) LogRefusal → List PrintedLine
printed_for_line plan bound number s (Ok None) = []
printed_for_line plan bound number s (Ok (Some stimulus)) =
    map Traced (trace_of plan bound (with_alarms plan bound stimulus s) s)
printed_for_line plan bound number s (Err refusal) = Refused number refusal ∷ []

-- the state after a line
abbrev pub after_line : PlanView → ℕ → Machine → Result (Option Stimulus) LogRefusal → Machine
after_line plan bound s (Ok None) = s
after_line plan bound s (Ok (Some stimulus)) = state_after plan bound (with_alarms plan bound stimulus s) s
after_line plan bound s (Err refusal) = s

-- what is printed for these lines of a log, which are numbered from `number` on
abbrev pub printed_for_lines : PlanView → ℕ → ℕ → List (List ℕ) → Machine → List PrintedLine
printed_for_lines plan bound number [] s = []
printed_for_lines plan bound number (line ∷ more) s =
    let input = given_by_line plan s.moment (meaning line) in
    printed_for_line plan bound number s input
    ++ printed_for_lines plan bound (number + 1) more (after_line plan bound s input)

-- what is printed for a log
abbrev pub printed_for_log : PlanView → ℕ → List ℕ → List PrintedLine
printed_for_log plan bound log = printed_for_lines plan bound 1 (lines log) (initial plan)

-- the lines of the trace among them
abbrev pub trace_in : List PrintedLine → List Line
trace_in [] = []
trace_in (Traced line ∷ more) = line ∷ trace_in more
trace_in (Refused number refusal ∷ more) = trace_in more
