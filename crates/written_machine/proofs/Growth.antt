-- What the machine does only adds to its lines and waiting events.
use Rattle.std.proofs.Common.{rules, ℕ, ℤ, ◌≤◌, ◌<◌, Option, List, [], ◌∷◌, length, length-append, arith}
use Rattle.plan_tables.specs.PlanView.{PlanView, work_of}
use Rattle.plan_tables.specs.declared.entries.{EventId.EventId, BindingId.BindingId, Owner.Owner, VariableId.VariableId}
use Rattle.coil_guard.specs.declared.command.Command.{Command}
use Rattle.written_machine.specs.{declared.line.Line.Line, Moves.Grows}
use Rattle.written_machine.specs.declared.line.Happening.TheVariants as lines
use Rattle.event_queue.specs.declared.queue.Posted.{Posted}
use Rattle.written_machine.specs.Machine.{Machine, post, ask_coil, all_do, tell_change, do_handler}
use Rattle.written_machine.specs.EventStep.{take_event, is_kept, before_handlers, after_event}
use Rattle.written_machine.proofs.Does.{grows-does, none-grows, then-grows}
use Rattle.written_machine.proofs.Parts.{does-handler, does-before, does-after}

-- if each adds, all do
pub all_do-grows : {X : Type 0} (f : X → Machine → Machine) → ((x : X) (s : Machine) → Grows s (f x s))
    → (xs : List X) (s : Machine) → Grows s (all_do f xs s)
all_do-grows f each [] s = none-grows s
all_do-grows f each (x ∷ xs) s = then-grows (each x s) (all_do-grows f each xs (f x s))

pub post-grows : (owner : Owner) (e : EventId) (s : Machine) → Grows s (post owner e s)
post-grows owner e s = search (rules, length-append)

pub asked-grows : (owner : Owner) (command : Command) (s : Machine) → Grows s (ask_coil owner command s)
asked-grows owner command s = search (rules, length-append)

pub told-grows : (owner : Owner) (player : ℕ) (v : VariableId) (e : EventId) (value : Option ℤ) (s : Machine)
    → Grows s (tell_change owner player v e value s)
told-grows owner player v e value s = search (rules, length-append)

module _ (plan : PlanView) where
  -- whoever takes part
  pub handler-grows : (place : BindingId) (s : Machine) → Grows s (do_handler plan place s)
  handler-grows place s = grows-does plan (does-handler plan (λ o. Unit {0}) ⊥ tt place s tt)

  -- an event step adds its line, and to what waits after its event
  pub event-grows : (first : Posted) (rest : List Posted) (order : List BindingId) (s : Machine)
      → (length s.lines < length (after_event plan first rest order s).lines)
      × (length rest ≤ length (after_event plan first rest order s).waiting)
  event-grows first rest order s =
      let written : Line = record { moment = s.moment; owner = first.owner; happening = lines.Event first.event } in
      let opened = before_handlers plan first rest s in
      let handled = all_do (do_handler plan) order opened in
      let before = grows-does plan (does-before plan (work_of plan first.event) (take_event first rest s)) in
      let g = all_do-grows (do_handler plan) handler-grows order opened in
      let after = grows-does plan (does-after plan (is_kept (work_of plan first.event) s) first.event handled) in
      let more = then-grows before (then-grows g after) in
      let lines_more = more.lines in
      (omega (arith, lines_more, length-append s.lines (written ∷ [])), more.waiting)
