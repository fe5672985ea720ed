-- The event steps that the controller takes: each event's handlers run in plan order.
use Rattle.std.specs.Prelude.{ℕ, zero, suc, List, [], ◌∷◌}
use Rattle.plan_tables.specs.PlanView.{PlanView}
use Rattle.event_queue.specs.{declared.queue.Posted.Posted, PlanOrder.by_priority}
use Rattle.written_machine.specs.{Machine.Machine, Run.{Stimulus, begin}}
use Rattle.written_machine.specs.EventStep.{before_handlers, handlers_in, after_event}

-- the event step in plan order; nothing if no event waits
abbrev pub plan_step_from : PlanView → List Posted → Machine → Machine
plan_step_from plan [] s = s
plan_step_from plan (first ∷ rest) s =
    after_event plan first rest (by_priority plan (handlers_in plan (before_handlers plan first rest s) first.event)) s

abbrev pub plan_step : PlanView → Machine → Machine
plan_step plan s = plan_step_from plan s.waiting s

-- so many of these steps
abbrev pub plan_steps : PlanView → ℕ → Machine → Machine
plan_steps plan zero s = s
plan_steps plan (suc n) s = plan_steps plan n (plan_step plan s)

-- the state after a stimulus and its event steps, of which there are at most as many as the bound
abbrev pub settle_all : PlanView → ℕ → Stimulus → Machine → Machine
settle_all plan bound stimulus s = plan_steps plan bound (begin plan stimulus s)
