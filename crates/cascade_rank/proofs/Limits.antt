-- How many events, bindings, coils, rows and actions of a list a valid plan has at most.
use Rattle.std.proofs.{Common.{rules, ◌≤◌, length}, lemmas.{Bool.cases_lt, List.{get_or_past, Elements.All-get_or}}}
use Rattle.plan_tables.specs.{PlanView.{PlanView, actions_at}, Valid.IsValid, declared.entries.ListId.ListId}

pub events-few : (plan : PlanView) → IsValid plan → length plan.events ≤ 4096
events-few plan valid = valid.event_limit

pub bindings-few : (plan : PlanView) → IsValid plan → length plan.bindings ≤ 16384
bindings-few plan valid = valid.binding_limit

pub coils-few : (plan : PlanView) → IsValid plan → length plan.coils ≤ 256
coils-few plan valid = valid.coil_limit

pub rows-few : (plan : PlanView) → IsValid plan → length plan.rows ≤ 1024
rows-few plan valid = valid.row_limit

-- if there is no list of this number, it has no actions
pub actions-few : (plan : PlanView) → IsValid plan → (l : ListId) → length (actions_at plan l) ≤ 1024
actions-few plan valid l = search (rules, cases_lt, All-get_or, get_or_past)
