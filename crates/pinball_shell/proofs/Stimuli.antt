-- Stimuli that come one after another.
use Rattle.std.proofs.Common.{◌≡◌, ℕ, List, [], ◌∷◌, ◌++◌, refl, ap, sym, ◌∙◌, append_assoc}
use Rattle.plan_tables.specs.PlanView.{PlanView}
use Rattle.written_machine.specs.{declared.line.Line.Line, Machine.Machine, Run.Stimulus}
use Rattle.written_machine.specs.{AlarmsBy.state_after, PlanOrder.settle_all}
use Rattle.pinball_shell.specs.RunOfLog.{trace_of}

module _ (plan : PlanView) (bound : ℕ) where
  pub state_after-append : (xs ys : List Stimulus) (s : Machine)
      → state_after plan bound (xs ++ ys) s ≡ state_after plan bound ys (state_after plan bound xs s)
  state_after-append [] ys s = refl
  state_after-append (x ∷ xs) ys s = state_after-append xs ys (settle_all plan bound x s)

  pub trace_of-append : (xs ys : List Stimulus) (s : Machine)
      → trace_of plan bound (xs ++ ys) s ≡ trace_of plan bound xs s
      ++ trace_of plan bound ys (state_after plan bound xs s)
  trace_of-append [] ys s = refl
  trace_of-append (x ∷ xs) ys s =
      let next = settle_all plan bound x s in
      ap (λ (ls : List Line). next.lines ++ ls) (trace_of-append xs ys next)
      ∙ sym (append_assoc next.lines (trace_of plan bound xs next)
      (trace_of plan bound ys (state_after plan bound xs next)))
