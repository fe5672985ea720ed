-- What the lines of events and switches say after their owner, those of modes as their owner, and those of variables
-- before their value.
use Rattle.std.specs.Prelude.{ℕ, Bool, true, false, List, ◌++◌, codes}
use Rattle.plan_tables.specs.PlanView.{PlanView, PlanMode, PlanSwitch, name_of_event, name_of_variable, switch_at}
use Rattle.plan_tables.specs.declared.entries.{EventId.EventId, SwitchId.SwitchId, VariableId.VariableId}
use Rattle.trace_lines.specs.{declared.printed_plan.SwitchTails.SwitchTails, LineText.{event_text, switch_text}}

abbrev pub name_of_mode : PlanMode → List ℕ
name_of_mode m = m.name

-- ` event NAME`, and LF
abbrev pub event_tail_named : List ℕ → List ℕ
event_tail_named name = codes " event " ++ event_text name

abbrev pub event_tail : PlanView → EventId → List ℕ
event_tail plan e = event_tail_named (name_of_event plan e)

-- ` switch NAME active`, or `inactive`, and LF
abbrev pub switch_tail_named : List ℕ → Bool → List ℕ
switch_tail_named name active = codes " switch " ++ switch_text name active

abbrev pub switch_tail : PlanView → SwitchId → Bool → List ℕ
switch_tail plan s active = switch_tail_named (switch_at plan s).name active

-- both of a switch: when it is inactive, and active
abbrev pub switch_tails_of : PlanSwitch → SwitchTails
switch_tails_of s = record { inactive = switch_tail_named s.name false; active = switch_tail_named s.name true }

-- `NAME `
abbrev pub variable_word_named : List ℕ → List ℕ
variable_word_named name = name ++ codes " "

abbrev pub variable_word : PlanView → VariableId → List ℕ
variable_word plan v = variable_word_named (name_of_variable plan v)
