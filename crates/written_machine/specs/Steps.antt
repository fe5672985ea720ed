-- How many steps a stimulus takes: the lines that it writes, the handlers that are looked at, and the calls of devices.
use Rattle.std.specs.Prelude.{◌≡◌, ℕ, zero, suc, ◌+◌, ◌≤◌, max, [], length}
use Rattle.plan_tables.specs.PlanView.{PlanView, work_of}
use Rattle.cascade_rank.specs.{Cost.{Cost, Lines, Step, Weight, Both, Greater}, Working.work_bound_of}
use Rattle.written_machine.specs.{Machine.{Machine, all_do, do_handler}, Run.{Stimulus, IsAllowed, begin, InEveryRun}}
use Rattle.written_machine.specs.EventStep.{EventStep, EventSteps, take_event, before_handlers}
use Rattle.written_machine.specs.Spent.{each_now, before_now, handler_now, after_now, stimulus_now}

-- the steps of a cost, if each counts k
abbrev pub steps_at : ℕ → Cost → ℕ
steps_at k (Lines n) = 0
steps_at k Step = k
steps_at k (Weight e) = 0
steps_at k (Both a b) = steps_at k a + steps_at k b
steps_at k (Greater a b) = max (steps_at k a) (steps_at k b)

abbrev pub steps_in : Cost → ℕ
steps_in c = steps_at 1 c

-- what an event step costs: the work before its handlers, they in their order, and the work after them
abbrev pub event_now : (plan : PlanView) (s t : Machine) → EventStep plan s t → Cost
event_now plan s t step =
    let work = work_of plan step.first.event in
    let ready = before_handlers plan step.first step.rest s in
    Both (before_now plan work (take_event step.first step.rest s))
    (Both (each_now (do_handler plan) (handler_now plan) step.order ready)
    (after_now plan work (all_do (do_handler plan) step.order ready)))

abbrev pub steps_of : (plan : PlanView) (n : ℕ) (s t : Machine) → EventSteps plan n s t → ℕ
steps_of plan zero s t is = 0
steps_of plan (suc n) s t (mid, step, more) = steps_in (event_now plan s mid step) + steps_of plan n mid t more

-- In every run each stimulus takes at most so many steps as the work bound says: its lines so far, what it began with,
-- and its event steps.
abbrev pub WorkIsBounded : PlanView → Type 0
WorkIsBounded plan =
    InEveryRun plan (λ stimuli trace s. s.waiting ≡ [] → (stimulus : Stimulus) → IsAllowed plan s stimulus →
    (n : ℕ) (t : Machine) (steps : EventSteps plan n (begin plan stimulus s) t) →
    length t.lines + (steps_in (stimulus_now plan stimulus s) + steps_of plan n (begin plan stimulus s) t steps)
    ≤ work_bound_of plan)
