-- What the parts of an event step and the beginning of a stimulus keep, each run keeps, with the trace so far.
use Rattle.std.proofs.Common.{rules, ◌≡◌, ℕ, zero, suc, Bool, List, [], ◌∷◌, ◌++◌, ap, sym, ◌∙◌, subst, append_assoc}
use Rattle.plan_tables.specs.PlanView.{PlanView, work_of}
use Rattle.written_machine.specs.{declared.line.Line.Line, Run.{Stimulus, IsAllowed, begin, IsRun}}
use Rattle.cascade_rank.specs.Cost.{Cost}
use Rattle.event_queue.specs.declared.queue.Posted.{Posted}
use Rattle.written_machine.{specs.{Machine.Machine, Moves.{Does, MayHandle}}, proofs.Parts.does-order}
use Rattle.written_machine.specs.EventStep.{before_handlers, is_kept, do_after, EventStep, EventSteps}

-- Inv holds between event steps, and During while an event is handled: from the machine's work before its handlers
-- until that after them, whether a stop was kept or not. The lines since the latest stimulus stand behind the earlier
-- ones.
module _ (plan : PlanView) (Inv : List Line → Machine → Type 0) (During : Posted → List Line → Machine → Type 0)
    (opens : (before : List Line) (first : Posted) (rest : List Posted) (s : Machine) → s.waiting ≡ first ∷ rest
    → Inv before s → During first before (before_handlers plan first rest s))
    (moves : (before : List Line) (first : Posted) (c : Cost) (s t : Machine) → Does plan (MayHandle plan s) c s t
    → During first before s → During first before t)
    (closes : (before : List Line) (first : Posted) (kept : Bool) (s : Machine) → During first before s
    → Inv before (do_after plan kept (work_of plan first.event) s)) where
  pub step-keeps : (before : List Line) (s t : Machine) → EventStep plan s t → Inv before s → Inv before t
  step-keeps before s t st h =
      let ready = before_handlers plan st.first st.rest s in
      let handled = moves before st.first _ ready _ (does-order plan ready st.first.event st.order st.in_order)
      (opens before st.first st.rest s st.waiting h) in
      subst (Inv before) (sym st.new_is) (closes before st.first (is_kept (work_of plan st.first.event) s) _ handled)

-- what each event step keeps, all event steps keep
module _ (plan : PlanView) (Inv : List Line → Machine → Type 0)
    (step : (before : List Line) (s t : Machine) → EventStep plan s t → Inv before s → Inv before t) where
  pub steps-keep : (before : List Line) (n : ℕ) (s t : Machine) → EventSteps plan n s t → Inv before s → Inv before t
  steps-keep before zero s t is h = subst (Inv before) (sym is) h
  steps-keep before (suc n) s t (mid, one, more) h = steps-keep before n mid t more (step before s mid one h)

  -- and with the beginning of a stimulus all runs
  module _ (begins : (before : List Line) (stimulus : Stimulus) (s : Machine) → IsAllowed plan s stimulus
      → s.waiting ≡ [] → Inv before s → Inv (before ++ s.lines) (begin plan stimulus s)) where
    pub run-keeps : (before : List Line) (stimuli : List (Stimulus × ℕ)) (s : Machine) (trace : List Line) (t : Machine)
        → IsRun plan stimuli s trace t → Inv before s
        → (earlier : List Line) × Inv earlier t × (earlier ++ t.lines ≡ (before ++ s.lines) ++ trace)
    run-keeps before [] s trace t (none, is) h = search rules
    run-keeps before ((stimulus, n) ∷ more) s trace t (empty, allowed, (mid, rest, steps, run, lines)) h =
        let went = steps-keep (before ++ s.lines) n (begin plan stimulus s) mid steps
        (begins before stimulus s allowed empty h) in
        let end = run-keeps (before ++ s.lines) more mid rest t run went in (
          end.0,
          end.1,
          end.2 ∙ append_assoc (before ++ s.lines) mid.lines rest
              ∙ sym (ap (λ (ls : List Line). (before ++ s.lines) ++ ls) lines),
        )
