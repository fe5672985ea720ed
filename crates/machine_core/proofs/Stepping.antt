-- What is done at an event that was taken: the machine's work before its handlers, they, and the work after them.
use Rattle.std.proofs.Common.{rules, ◌≡◌, Bool, false, Some, None, List, filter, refl, ap, sym, ◌∙◌, subst}
use Rattle.plan_tables.specs.declared.entries.{BindingId.BindingId, EventId.EventId, Work.{Work, TheVariants.Nothing}}
use Rattle.plan_tables.specs.PlanView.{PlanView, work_of}
use Rattle.mode_stack.specs.Modes.{running_of}
use Rattle.event_queue.specs.{Handlers.runs_at, PlanOrder.{by_priority, in_order}}
use Rattle.written_machine.specs.{Machine.{Machine, all_do, do_handler}, EventStep.{is_kept, do_before, do_after}}
use Rattle.written_machine.proofs.{Does.grows-does, Growth.{all_do-grows, handler-grows}, Silence.handlers-still}
use Rattle.written_machine.proofs.Parts.{does-handlers, does-before, does-after}
use Rattle.machine_core.specs.Core.{CoreView, CanCall, HasHandlers, IsWithin, after, follow, after_taken}
use Rattle.machine_core.specs.{Idle.IsIdle, RareActions.kept_at}
use Rattle.machine_core.proofs.{Following.follow-nothing, Room.room-before, Callable.can-does}

-- ---- whether the machine has work at an event

pub kept-some : (work : Work) (s : Machine) (kept : Bool) → kept_at work s ≡ Some kept → kept ≡ is_kept work s
kept-some x1 s kept is = search rules

pub kept-none : (work : Work) (s : Machine) → kept_at work s ≡ None → work ≡ Nothing
kept-none x1 s is = search rules

-- ---- devices can still be called

pub before-calls : (work : Work) (old ready : CoreView) → ready ≡ follow (do_before old.plan work) old → CanCall old
    → CanCall ready
before-calls work old ready is h =
    let s = do_before old.plan work old.machine in
    subst CanCall (sym is) (can-does old (running_of s.modes) s (does-before old.plan work old.machine) h)

pub handled-calls : (order : List BindingId) (old then : CoreView)
    → then ≡ after (all_do (do_handler old.plan) order) old → CanCall old → CanCall then
handled-calls order old then is h =
    let does = does-handlers old.plan (λ owner. Unit {0}) ⊥ tt order (λ i d there. tt) old.machine in
    subst CanCall (sym is) (can-does old old.running (all_do (do_handler old.plan) order old.machine) does h)

pub taken-calls : (event : EventId) (old last : CoreView) → last ≡ follow (after_taken old.plan event) old → CanCall old
    → CanCall last
taken-calls event old last is h =
    let plan = old.plan in
    let opened = follow (do_before plan (work_of plan event)) old in
    let ready = before-calls (work_of plan event) old opened refl h in
    let order = in_order plan (running_of opened.machine.modes) event in
    let then = after (all_do (do_handler plan) order) opened in
    let done = handled-calls order opened then refl ready in
    let kept = is_kept (work_of plan event) old.machine in
    let s = do_after plan kept (work_of plan event) then.machine in
    subst CanCall (sym is) (can-does then (running_of s.modes) s (does-after plan kept event then.machine) done)

-- ---- from the old core to the last

module _ (event : EventId) where
  -- the handlers of the event in plan order
  abbrev handled : PlanView → Machine → Machine
  handled plan s = all_do (do_handler plan) (in_order plan (running_of s.modes) event) s

  -- the whole, if the work and whether a stop was kept are known
  abbrev whole : PlanView → Work → Bool → Machine → Machine
  whole plan work kept s = do_after plan kept work (handled plan (do_before plan work s))

  module _ (old : CoreView) (room : IsWithin old.room (after_taken old.plan event old.machine)) (work : Work)
      (work_is : work ≡ work_of old.plan event)
      (ready : CoreView) (ready_is : ready ≡ follow (do_before old.plan work) old) where
    pub ready-handles : HasHandlers ready
    ready-handles = subst HasHandlers (sym ready_is) refl

    module _ (kept : Bool) (kept_is : kept ≡ is_kept work old.machine) where
      whole-is : whole old.plan work kept old.machine ≡ after_taken old.plan event old.machine
      whole-is = search rules

      room-handled : IsWithin old.room (handled old.plan (do_before old.plan work old.machine))
      room-handled = search (rules, room-before, grows-does, does-after, whole-is)

      pub before-room : IsWithin old.room (do_before old.plan work old.machine)
      before-room =
          let opened = do_before old.plan work old.machine in
          room-before old.room opened (handled old.plan opened)
          (all_do-grows (do_handler old.plan) (handler-grows old.plan)
          (in_order old.plan (running_of opened.modes) event) opened) room-handled

      pub ready-room : IsWithin ready.room (handled ready.plan ready.machine)
      ready-room = subst (λ (c : CoreView). IsWithin c.room (handled c.plan c.machine)) (sym ready_is) room-handled

      module _ (then : CoreView) (then_is : then
          ≡ after (all_do (do_handler ready.plan) (in_order ready.plan (running_of ready.machine.modes) event))
          ready) where
        pub then-handles : HasHandlers then
        then-handles = subst HasHandlers (sym then_is)
            (ready-handles ∙ sym (handlers-still ready.plan ready.machine event))

        then-plan : then.plan ≡ old.plan
        then-plan = ap (λ (c : CoreView). c.plan) then_is ∙ ap (λ (c : CoreView). c.plan) ready_is

        then-work : work ≡ work_of then.plan event
        then-work = work_is ∙ ap (λ (p : PlanView). work_of p event) (sym then-plan)

        pub then-room : IsWithin then.room (do_after then.plan kept (work_of then.plan event) then.machine)
        then-room = search rules

        work-is : (last : CoreView) → last ≡ follow (do_after then.plan kept work) then
            → last ≡ follow (after_taken old.plan event) old
        work-is last is = search rules

        pub last-is : (last : CoreView) → last ≡ follow (do_after then.plan kept (work_of then.plan event)) then
            → last ≡ follow (after_taken old.plan event) old
        last-is last is = work-is last (is ∙ ap (λ (w : Work). follow (do_after then.plan kept w) then) (sym then-work))

        -- if the machine has no work, the handlers were the last
        pub none-is : work ≡ Nothing → then ≡ follow (after_taken old.plan event) old
        none-is none = work-is then (follow-nothing then then-handles
            ∙ ap (λ (w : Work). follow (do_after then.plan kept w) then) (sym none))

  -- at an idle event nothing is done
  pub idle-is : (core : CoreView) → HasHandlers core → IsWithin core.room (after_taken core.plan event core.machine)
      → IsIdle core.plan event → core ≡ follow (after_taken core.plan event) core
  idle-is core handles room idle =
      let plan = core.plan in
      let running : List Bool = running_of core.machine.modes in
      none-is core room Nothing (sym idle.no_work) core (follow-nothing core handles) false refl core
      (ap (λ (places : List BindingId). after (all_do (do_handler plan) (by_priority plan
      (filter (runs_at plan running) places))) core) (sym idle.unbound)) refl
