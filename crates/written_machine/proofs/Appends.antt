-- What the machine does only appends to its lines.
use Rattle.std.proofs.Common.{◌≡◌, ℕ, zero, suc, List, [], ◌∷◌, ◌++◌, refl, ap, ◌∙◌, subst, sym, append_assoc}
use Rattle.plan_tables.specs.{PlanView.{PlanView, work_of}, declared.entries.BindingId.BindingId}
use Rattle.cascade_rank.specs.Cost.{Cost}
use Rattle.event_queue.specs.{declared.queue.Posted.Posted, PlanOrder.by_priority}
use Rattle.written_machine.specs.{declared.line.Line.Line, Machine.{Machine, all_do, do_handler}}
use Rattle.written_machine.specs.Moves.{Move, Wrote, Began, Ended, Asked, Booked, do_move, Does}
use Rattle.written_machine.specs.EventStep.{take_event, is_kept, before_handlers, handlers_in, after_event}
use Rattle.written_machine.specs.PlanOrder.{plan_step_from, plan_step, plan_steps}
use Rattle.written_machine.proofs.Does.{start-by, stop-by, book-by, does-keeps}
use Rattle.written_machine.proofs.Parts.{does-handler, does-before, does-after}

-- the lines of t are those of s, and more
record Appends (s t : Machine) : Type 0 where
  more : List Line
  lines : t.lines ≡ s.lines ++ more

appends-none : (s : Machine) → Appends s s
appends-none s = record { more = []; lines = by s.lines }
  where
    by : (ls : List Line) → ls ≡ ls ++ []
    by [] = refl
    by (l ∷ ls) = ap (λ rest. l ∷ rest) (by ls)

module _ (plan : PlanView) (start : Machine) where
  written : (l : Line) (s t : Machine) → t.lines ≡ s.lines ++ l ∷ [] → Appends start s → Appends start t
  written l s t is h =
      record {
        more = h.more ++ l ∷ [];
        lines = is ∙ ap (λ ls. ls ++ l ∷ []) h.lines
            ∙ append_assoc start.lines h.more (l ∷ []);
      }

  quiet : (s t : Machine) → t.lines ≡ s.lines → Appends start s → Appends start t
  quiet s t is h = record { more = h.more; lines = is ∙ h.lines }

  appends-move : (x : Move) (s : Machine) → Appends start s → Appends start (do_move plan x s)
  appends-move (Wrote owner what) s h = written _ s _ refl h
  appends-move (Began m) s h = start-by plan m s (Appends start) (quiet s _ refl h) (quiet s _ refl h)
  appends-move (Ended m) s h = stop-by plan m s (Appends start) (quiet s _ refl h) (quiet s _ refl h)
  appends-move (Asked owner command) s h = written _ s _ refl h
  appends-move (Booked owner call) s h = book-by owner call s (Appends start) (λ may. written _ s _ refl h)
      (quiet s _ refl h)
  appends-move _ s h = quiet s _ refl h

  appends-does : {may : Move → Type 0} {c : Cost} {s t : Machine} → Does plan may c s t → Appends start s
      → Appends start t
  appends-does {may} d h = does-keeps plan may (Appends start) (λ x s allowed. appends-move x s) d h

  appends-handlers : (order : List BindingId) (s : Machine) → Appends start s
      → Appends start (all_do (do_handler plan) order s)
  appends-handlers [] s h = h
  appends-handlers (place ∷ order) s h = appends-handlers order (do_handler plan place s)
      (appends-does (does-handler plan (λ o. Unit {0}) ⊥ tt place s tt) h)

  appends-event : (first : Posted) (rest : List Posted) (order : List BindingId) (s : Machine) → Appends start s
      → Appends start (after_event plan first rest order s)
  appends-event first rest order s h =
      let opened = before_handlers plan first rest s in
      let handled = all_do (do_handler plan) order opened in
      appends-does (does-after plan (is_kept (work_of plan first.event) s) first.event handled)
      (appends-handlers order opened (appends-does
      (does-before plan (work_of plan first.event) (take_event first rest s))
      (written _ s (take_event first rest s) refl h)))

  appends-step : (ps : List Posted) (s : Machine) → Appends start s → Appends start (plan_step_from plan ps s)
  appends-step [] s h = h
  appends-step (first ∷ rest) s h = appends-event first rest
      (by_priority plan (handlers_in plan (before_handlers plan first rest s) first.event)) s h

  appends-steps : (n : ℕ) (s : Machine) → Appends start s → Appends start (plan_steps plan n s)
  appends-steps zero s h = h
  appends-steps (suc n) s h = appends-steps n (plan_step plan s) (appends-step s.waiting s h)

-- event steps in plan order
pub steps-append : (plan : PlanView) (n : ℕ) (s : Machine)
    → (more : List Line) × ((plan_steps plan n s).lines ≡ s.lines ++ more)
steps-append plan n s = let all = appends-steps plan s n s (appends-none s) in (all.more, all.lines)
