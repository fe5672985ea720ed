-- The lines of a cascade are of its moment.
use Rattle.std.proofs.Common.{rules, ◌≡◌, ℕ, List, [], ◌∷◌, ◌++◌, refl, sym, ◌∙◌, subst}
use Rattle.plan_tables.specs.PlanView.{PlanView, work_of}
use Rattle.written_machine.specs.{declared.line.Line.Line, Moves.{Move, do_move, Does}}
use Rattle.written_machine.specs.{Machine.Machine, Run.{Stimulus, moment_of, begin}, PlanOrder.settle_all}
use Rattle.written_machine.specs.EventStep.{take_event, EventStep, EventSteps}
use Rattle.written_machine.proofs.Does.{start-by, stop-by, book-by, does-keeps, moment-move}
use Rattle.written_machine.proofs.Parts.{does-begin, does-before, does-after}
use Rattle.written_machine.proofs.{Keeps.{step-keeps, steps-keep}, PlanSteps.plan_steps-event_steps}

abbrev AreAt : ℕ → List Line → Type 0
AreAt m [] = Unit {0}
AreAt m (l ∷ ls) = (l.moment ≡ m) × AreAt m ls

at-push : (m : ℕ) (ls : List Line) (l : Line) → AreAt m ls → l.moment ≡ m → AreAt m (ls ++ l ∷ [])
at-push m [] l h is = (is, tt)
at-push m (k ∷ ls) l h is = (h.0, at-push m ls l h.1 is)

at-found : (m : ℕ) (display : List Line) (l : Line) (later : List Line) → AreAt m (display ++ l ∷ later) → l.moment ≡ m
at-found m [] l later h = h.0
at-found m (k ∷ display) l later h = at-found m display l later h.1

-- it is this moment, and all lines are of it
abbrev IsAt : ℕ → Machine → Type 0
IsAt m s = (s.moment ≡ m) × AreAt m s.lines

module _ (plan : PlanView) (m : ℕ) where
  lines-move : (x : Move) (s : Machine) → IsAt m s → AreAt m (do_move plan x s).lines
  lines-move x1 s h = search (rules, at-push, start-by, stop-by, book-by)

  at-does : {may : Move → Type 0} {c : _} {s t : Machine} → Does plan may c s t → IsAt m s → IsAt m t
  at-does {may} {c} {s} {t} d = does-keeps plan may (IsAt m)
      (λ x u allowed h. (moment-move plan x u ∙ h.0, lines-move x u h)) d

  at-step : (s t : Machine) → EventStep plan s t → IsAt m s → IsAt m t
  at-step =
      step-keeps plan (λ before. IsAt m) (λ first before. IsAt m)
      (λ before first rest s is h. at-does (does-before plan (work_of plan first.event) (take_event first rest s))
      (h.0, at-push m s.lines _ h.1 h.0))
      (λ before first c s t d h. at-does d h)
      (λ before first kept s h. at-does (does-after plan kept first.event s) h) []

  at-steps : (n : ℕ) (s t : Machine) → EventSteps plan n s t → IsAt m s → IsAt m t
  at-steps n s t steps = steps-keep plan (λ before. IsAt m) (λ before. at-step) [] n s t steps

settled-at : (plan : PlanView) (bound : ℕ) (stimulus : Stimulus) (s : Machine)
    → IsAt (moment_of stimulus) (settle_all plan bound stimulus s)
settled-at plan bound stimulus s =
    let (count, steps) = plan_steps-event_steps plan bound (begin plan stimulus s) in
    at-steps plan (moment_of stimulus) count (begin plan stimulus s) (settle_all plan bound stimulus s) steps
    (at-does plan (moment_of stimulus) (does-begin plan stimulus s) (refl, tt))

-- a line of a cascade is of the moment at which the machine then is
pub line-moment : (plan : PlanView) (bound : ℕ) (stimulus : Stimulus) (s t : Machine) (display : List Line)
    (line : Line)
    (later : List Line) → t ≡ settle_all plan bound stimulus s → t.lines ≡ display ++ line ∷ later
    → t.moment ≡ line.moment
line-moment plan bound stimulus s t display line later is lines =
    let at = subst (IsAt (moment_of stimulus)) (sym is) (settled-at plan bound stimulus s) in
    at.0 ∙ sym (at-found (moment_of stimulus) display line later (subst (AreAt (moment_of stimulus)) lines at.1))
