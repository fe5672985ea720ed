-- The steps that the controller takes are event steps, and more of them than are needed change nothing.
use Rattle.std.proofs.Common.{rules, ◌≡◌, ℕ, zero, suc, ◌+◌, ◌-◌, ◌≤◌, List, [], ◌∷◌, ◌++◌, length, refl, ap, sym, ◌∙◌}
use Rattle.std.proofs.{Common.{subst, inl, inr, ◌⊎◌, arith, append_assoc}, lemmas.Bool.cases_lt}
use Rattle.plan_tables.specs.PlanView.{PlanView}
use Rattle.written_machine.specs.{declared.line.Line.Line, Machine.{Machine, initial}}
use Rattle.event_queue.specs.{declared.queue.Posted.Posted, PlanOrder.by_priority}
use Rattle.written_machine.specs.EventStep.{before_handlers, handlers_in, EventStep, EventSteps, after_event}
use Rattle.written_machine.{specs.PlanOrder.{plan_step_from, plan_step, plan_steps}, proofs.Order.plan_order-step}
use Rattle.written_machine.specs.{Run.{Stimulus, IsAllowed, begin, IsRun}, GoodRun.CascadesEnd, CheckedView.CheckedView}

module _ (plan : PlanView) where
  -- if no event waits, nothing happens
  pub plan_step-idle : (s : Machine) → s.waiting ≡ [] → plan_step plan s ≡ s
  plan_step-idle s empty = ap (λ (ps : List Posted). plan_step_from plan ps s) empty

  pub plan_steps-idle : (n : ℕ) (s : Machine) → s.waiting ≡ [] → plan_steps plan n s ≡ s
  plan_steps-idle zero s empty = refl
  plan_steps-idle (suc n) s empty = ap (plan_steps plan n) (plan_step-idle s empty) ∙ plan_steps-idle n s empty

  -- if one waits, its step is taken in plan order
  pub plan_step-taken : (s : Machine) (first : Posted) (rest : List Posted) → s.waiting ≡ first ∷ rest
      → plan_step plan s ≡ after_event plan first rest
      (by_priority plan (handlers_in plan (before_handlers plan first rest s) first.event)) s
  plan_step-taken s first rest waits = ap (λ (ps : List Posted). plan_step_from plan ps s) waits

  pub plan_step-is_step : (s : Machine) (first : Posted) (rest : List Posted) → s.waiting ≡ first ∷ rest
      → EventStep plan s (plan_step plan s)
  plan_step-is_step s first rest waits = subst (EventStep plan s) (sym (plan_step-taken s first rest waits))
      (plan_order-step plan s first rest waits)

  -- So many steps in plan order are event steps: so many of them, or fewer and then no event waits.
  pub record IsSteps (n : ℕ) (s t : Machine) : Type 0 where
    pub count : ℕ
    pub fuel : count ≤ n
    pub steps : EventSteps plan count s t
    pub done : (t.waiting ≡ []) ⊎ (count ≡ n)

  cases_waiting : (s : Machine) (ps : List Posted) → s.waiting ≡ ps
      → (s.waiting ≡ []) ⊎ ((first : Posted) × (rest : List Posted) × (s.waiting ≡ first ∷ rest))
  cases_waiting s [] e = inl e
  cases_waiting s (p ∷ ps) e = inr (p, ps, e)

  pub plan_steps-are_steps : (n : ℕ) (s : Machine) → IsSteps n s (plan_steps plan n s)
  plan_steps-are_steps zero s = record { count = 0; fuel = omega arith; steps = refl; done = inr refl }
  plan_steps-are_steps (suc n) s =
      elim (cases_waiting s s.waiting refl) [
        | inl empty ↦
            let stays = plan_steps-idle (suc n) s empty in
            record {
              count = 0;
              fuel = omega arith;
              steps = stays;
              done = inl (ap (λ (m : Machine). m.waiting) stays ∙ empty);
            }
        | inr there ↦
            let more = plan_steps-are_steps n (plan_step plan s) in
            record {
              count = suc more.count;
              fuel = let fuel = more.fuel in omega arith;
              steps = (plan_step plan s, plan_step-is_step s there.0 there.1 there.2, more.steps);
              done = elim more.done [ inl empty ↦ inl empty | inr all ↦ inr (ap suc all) ];
            }
      ]

  pub plan_steps-event_steps : (n : ℕ) (s : Machine) → (count : ℕ) × EventSteps plan count s (plan_steps plan n s)
  plan_steps-event_steps n s = let is = plan_steps-are_steps n s in (is.count, is.steps)

  -- one after another
  pub plan_steps-add : (n m : ℕ) (s : Machine) → plan_steps plan (n + m) s ≡ plan_steps plan m (plan_steps plan n s)
  plan_steps-add zero m s = search rules
  plan_steps-add (suc n) m s =
      let e : suc n + m ≡ suc (n + m) = omega arith in
      rw e (plan_steps-add n m (plan_step plan s))

  -- one more at the end
  pub plan_steps-more : (n : ℕ) (s : Machine) → plan_steps plan (n + 1) s ≡ plan_step plan (plan_steps plan n s)
  plan_steps-more n s = plan_steps-add n 1 s

  -- once no event waits, more steps change nothing
  pub plan_steps-enough : (n m : ℕ) (s : Machine) → n ≤ m → (plan_steps plan n s).waiting ≡ []
      → plan_steps plan m s ≡ plan_steps plan n s
  plan_steps-enough n m s l empty =
      let e : m ≡ n + (m - n) = omega arith in
      ap (λ (k : ℕ). plan_steps plan k s) e
      ∙ (plan_steps-add n (m - n) s ∙ plan_steps-idle (m - n) (plan_steps plan n s) empty)

  -- event steps one after another
  pub steps-join : (n m : ℕ) (s mid t : Machine) → EventSteps plan n s mid → EventSteps plan m mid t
      → EventSteps plan (n + m) s t
  steps-join zero m s mid t a b = search rules
  steps-join (suc n) m s mid t (next, step, more) b =
      let e : suc n + m ≡ suc (n + m) = omega arith in
      subst (λ (k : ℕ). EventSteps plan k s t) (sym e) (next, step, steps-join n m next mid t more b)

  -- one stimulus more at the end of a run after which no event waits
  pub IsRun-push : (stimuli : List (Stimulus × ℕ)) (s : Machine) (trace : List Line) (m : Machine) (stimulus : Stimulus)
      (n : ℕ) (t : Machine) → IsRun plan stimuli s trace m → m.waiting ≡ [] → IsAllowed plan m stimulus
      → EventSteps plan n (begin plan stimulus m) t → IsRun plan (stimuli ++ (stimulus, n) ∷ []) s (trace ++ t.lines) t
  IsRun-push [] s trace m stimulus n t (none, is) idle allowed steps = search rules
  IsRun-push ((first, k) ∷ more) s trace m stimulus n t (empty, first_allowed, (mid, rest, went, run, lines)) idle
      allowed steps =
      search (rules, steps, append_assoc, IsRun-push more mid rest m stimulus n t run idle allowed steps)

-- After a run of a good plan at whose end no event waits, and a stimulus that may come next:
module _ (c : CheckedView) (good : CascadesEnd c) (stimuli : List (Stimulus × ℕ)) (trace : List Line) (s : Machine)
    (run : IsRun c.plan stimuli (initial c.plan) trace s) (empty : s.waiting ≡ []) (stimulus : Stimulus)
    (allowed : IsAllowed c.plan s stimulus) where
  abbrev pub begun : Machine
  begun = begin c.plan stimulus s

  -- the state after the event steps
  abbrev pub settled : Machine
  settled = plan_steps c.plan c.bound begun

  pub settled-steps : (n : ℕ) × EventSteps c.plan n begun settled
  settled-steps = plan_steps-event_steps c.plan c.bound begun

  pub settled-run : IsRun c.plan (stimuli ++ (stimulus, settled-steps.0) ∷ []) (initial c.plan) (trace ++ settled.lines)
      settled
  settled-run = IsRun-push c.plan stimuli (initial c.plan) trace s stimulus settled-steps.0 settled run empty allowed
      settled-steps.1

  -- no event waits any more
  pub settled-idle : settled.waiting ≡ []
  settled-idle =
      let is = plan_steps-are_steps c.plan c.bound begun in
      elim is.done [
        | inl idle ↦ idle
        | inr all ↦
            elim (cases_waiting c.plan settled settled.waiting refl) [
              | inl idle ↦ idle
              | inr there ↦
                  let next = plan_step c.plan settled in
                  let step = plan_step-is_step c.plan settled there.0 there.1 there.2 in
                  let ends = good.ends stimuli trace s run empty stimulus allowed (is.count + 1) next
                  (steps-join c.plan is.count 1 begun settled next is.steps (next, step, refl)) in
                  absurd (omega (arith, all, ends))
            ]
      ]

  -- any number of steps after which no event waits gives the same state
  pub settled-same : (n : ℕ) → (plan_steps c.plan n begun).waiting ≡ [] → plan_steps c.plan n begun ≡ settled
  settled-same n idle = search (rules, cases_lt, plan_steps-enough, settled-idle)

  -- on the way there are never more lines and waiting events than the bound
  pub settling-within : (n : ℕ) → length (plan_steps c.plan n begun).lines + length (plan_steps c.plan n begun).waiting
      ≤ c.bound
  settling-within n =
      let there = plan_steps c.plan n begun in
      let is = plan_steps-are_steps c.plan n begun in
      good.within (stimuli ++ (stimulus, is.count) ∷ []) (trace ++ there.lines) there
      (IsRun-push c.plan stimuli (initial c.plan) trace s stimulus is.count there run empty allowed is.steps)
