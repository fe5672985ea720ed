-- One event step more in plan order, from a core whose steps all have room.
use Rattle.std.proofs.Common.{rules, ◌≡◌, ◌≢◌, ℕ, ◌+◌, ◌-◌, ◌<◌, List, [], ◌∷◌, length, refl, ap, sym, ◌∙◌, subst}
use Rattle.std.proofs.Common.{arith}
use Rattle.plan_tables.specs.PlanView.{PlanView}
use Rattle.event_queue.specs.declared.queue.Posted.{Posted}
use Rattle.written_machine.specs.declared.line.Happening.TheVariants as happenings
use Rattle.written_machine.specs.{Machine.{Machine, write}, EventStep.take_event}
use Rattle.written_machine.specs.PlanOrder.{plan_step_from, plan_step, plan_steps}
use Rattle.written_machine.proofs.{Growth.event-grows, PlanSteps.{plan_steps-more, plan_steps-add}}
use Rattle.machine_core.specs.Core.{CoreView, CanCall, HasHandlers, IsWithin, StaysWithin, after, follow, after_taken}

-- an event that is taken, and what is done then, is an event step
taken-step : (plan : PlanView) (first : Posted) (rest : List Posted) (s : Machine)
    → after_taken plan first.event (take_event first rest s) ≡ plan_step_from plan (first ∷ rest) s
taken-step plan first rest s = search rules

-- a core that went on so has the handlers of the modes that run
pub follows-handles : (does : Machine → Machine) (start now : CoreView) → now ≡ follow does start → HasHandlers now
follows-handles does start now is = subst HasHandlers (sym is) refl

-- after no step it is the same core
pub follow-none : (c : CoreView) → HasHandlers c → c ≡ follow (plan_steps c.plan 0) c
follow-none c was = λ i. record { plan = c.plan; running = was i; machine = c.machine; room = c.room }

-- when an event is taken and its line written, devices can still be called
pub written-calls : (now took written : CoreView) (first : Posted) (rest : List Posted)
    → took ≡ after (λ s. record s { waiting = rest }) now
    → written ≡ after (write first.owner (happenings.Event first.event)) took
    → CanCall now → CanCall written
written-calls now took written first rest took_is written_is h = search rules

-- After so many event steps of a core that has room for all of them, an event waits.
module _ (start now : CoreView) (stays : StaysWithin start)
    (count : ℕ) (is : now ≡ follow (plan_steps start.plan count) start) (first : Posted) (rest : List Posted)
    (waits : now.machine.waiting ≡ first ∷ rest) where
  abbrev plan : PlanView
  plan = start.plan

  -- it is taken and handled
  abbrev pub handled : Machine
  handled = after_taken plan first.event (take_event first rest now.machine)

  step-is : plan_step plan now.machine ≡ handled
  step-is = ap (λ (ps : List Posted). plan_step_from plan ps now.machine) waits
      ∙ sym (taken-step plan first rest now.machine)

  steps-are : plan_steps plan (count + 1) start.machine ≡ handled
  steps-are = plan_steps-more plan count start.machine ∙ ap (λ (c : CoreView). plan_step plan c.machine) (sym is)
      ∙ step-is

  handled-room : IsWithin now.room handled
  handled-room = search (rules, steps-are)

  line-more : length now.machine.lines < length handled.lines
  line-more = search (rules, event-grows, taken-step)

  line-room : length now.machine.lines < now.room
  line-room = let fits = handled-room.lines in omega (arith, line-more, fits)

  -- its line is written
  module _ (took written : CoreView) (took_is : took ≡ after (λ s. record s { waiting = rest }) now)
      (written_is : written ≡ after (write first.owner (happenings.Event first.event)) took) where
    pub took-room : length took.machine.lines < took.room
    took-room = subst (λ (c : CoreView). length c.machine.lines < c.room) (sym took_is) line-room

    written-is : written ≡ after (take_event first rest) now
    written-is = written_is ∙ ap (after (write first.owner (happenings.Event first.event))) took_is

    pub written-handles : HasHandlers written
    written-handles = subst HasHandlers (sym written-is) (follows-handles (plan_steps plan count) start now is)

    plan-stays : written.plan ≡ plan
    plan-stays = ap (λ (c : CoreView). c.plan) written-is ∙ ap (λ (c : CoreView). c.plan) is

    pub written-room : IsWithin written.room (after_taken written.plan first.event written.machine)
    written-room = search (rules, plan-stays, written-is, handled-room)

    -- what is done then is one step more, and one line more at least
    module _ (next : CoreView) (next_is : next ≡ follow (after_taken written.plan first.event) written) where
      pub next-steps : next ≡ follow (plan_steps plan (count + 1)) start
      next-steps = search (rules, plan-stays, written-is, steps-are)

-- ---- a core that has advanced

module _ (start now : CoreView) (stays : StaysWithin start) (count : ℕ)
    (is : now ≡ follow (plan_steps start.plan count) start) where
  plan-is : now.plan ≡ start.plan
  plan-is = ap (λ (c : CoreView). c.plan) is

  -- it still has room for all that follows
  pub now-stays : StaysWithin now
  now-stays n =
      subst (λ (plan : PlanView). IsWithin now.room (plan_steps plan n now.machine)) (sym plan-is)
      (subst (λ (room : ℕ). IsWithin room (plan_steps start.plan n now.machine))
      (sym (ap (λ (c : CoreView). c.room) is))
      (subst (IsWithin start.room) (plan_steps-add start.plan count n start.machine
      ∙ sym (ap (λ (c : CoreView). plan_steps start.plan n c.machine) is)) (stays (count + n))))

  module _ (new : CoreView) (new_is : new ≡ follow (plan_step now.plan) now) where
    pub advanced-steps : new ≡ follow (plan_steps start.plan (count + 1)) start
    advanced-steps = search (rules, plan-is, plan_steps-more)

    more-lines : (ps : List Posted) → now.machine.waiting ≡ ps → now.machine.waiting ≢ []
        → length now.machine.lines < length (plan_step start.plan now.machine).lines
    more-lines [] none waits = absurd (waits none)
    more-lines (first ∷ rest) some waits =
        subst (λ (s : Machine). length now.machine.lines < length s.lines)
        (sym (step-is start now stays count is first rest some))
        (line-more start now stays count is first rest some)

    pub advanced-smaller : now.machine.waiting ≢ []
        → new.room - length new.machine.lines < now.room - length now.machine.lines
    advanced-smaller waits =
        let more = more-lines now.machine.waiting refl waits in
        let fits = (now-stays 1).lines in
        let lines = ap (λ (c : CoreView). length c.machine.lines) new_is in
        let same = ap (λ (plan : PlanView). length (plan_step plan now.machine).lines) plan-is in
        let room = ap (λ (c : CoreView). c.room) new_is in
        omega arith
