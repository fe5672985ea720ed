-- What is printed for a log, as bytes.
use Rattle.std.specs.Prelude.{ℕ, Bool, true, false, if◌then◌else◌, List, [], ◌∷◌, ◌++◌, codes}
use Rattle.std.specs.{List.{flat_map, list_any}, Fmt.decimal}
use Rattle.plan_tables.specs.PlanView.{PlanView}
use Rattle.trace_lines.specs.LineText.{line_text}
use Rattle.pin_rig.specs.Refused.{step_fault_number, step_fault_name}
use Rattle.pinball_shell.specs.declared.{fault.Verdict.Verdict, refusal.LogRefusal.LogRefusal}
use Rattle.pinball_shell.specs.declared.fault.Verdict.TheVariants as verdicts
use Rattle.pinball_shell.specs.declared.refusal.LogRefusal.TheVariants as refusals
use Rattle.pinball_shell.specs.RunOfLog.{PrintedLine, Traced, Refused}

-- The number and the name of a refusal are those of the fault of the step. A line that is no line of a log has its own.
abbrev pub refusal_number : LogRefusal → ℕ
refusal_number (refusals.Step fault) = step_fault_number fault
refusal_number refusals.BadLine = 8

abbrev pub refusal_name : LogRefusal → List ℕ
refusal_name (refusals.Step fault) = step_fault_name fault
refusal_name refusals.BadLine = codes "BadLine"

-- `refused LINE NUMBER NAME`, and LF
abbrev pub refused_text : ℕ → LogRefusal → List ℕ
refused_text line refusal = codes "refused " ++ decimal line ++ codes " " ++ decimal (refusal_number refusal)
    ++ codes " " ++ refusal_name refusal ++ 10 ∷ []

abbrev pub printed_text : PlanView → PrintedLine → List ℕ
printed_text plan (Traced line) = line_text plan line
printed_text plan (Refused number refusal) = refused_text number refusal

-- these, one after another
abbrev pub printed_texts : PlanView → List PrintedLine → List ℕ
printed_texts plan lines = flat_map (printed_text plan) lines

abbrev pub is_refused : PrintedLine → Bool
is_refused (Traced line) = false
is_refused (Refused number refusal) = true

-- yes if no line of the log was refused
abbrev pub log_verdict : List PrintedLine → Verdict
log_verdict lines = if list_any is_refused lines then verdicts.Refused else verdicts.Yes
