use Rattle.std.proofs.Common.{◌≡◌, map, take}
use Rattle.plan_tables.specs.PlanView.{name_of_event}
use Rattle.config_checker.proofs.reporting.names_of.Given as goal

-- the names of the events so far
abbrev pub invariant-loop-event : goal.invariant-loop-event
invariant-loop-event l = map (λ v. v.items) l.names.items ≡ map (name_of_event l.plan) (take l.event-index l.events)
