-- If weights fit, no event step raises the potential. So each cascade ends within the bound.
use Rattle.std.proofs.Common.{rules, ◌≡◌, ℕ, zero, suc, ◌+◌, ◌≤◌, ◌<◌, Bool, if◌then◌else◌, Some, None, List, [], ◌∷◌}
use Rattle.std.proofs.{Common.{length, refl, ap, sym, subst, arith, length-append}, lemmas.Bool.not-false}
use Rattle.plan_tables.specs.{PlanView.{PlanView, work_of}, Valid.{HasEntries, IsValid}}
use Rattle.plan_tables.specs.declared.entries.{EventId.EventId, SwitchId.SwitchId}
use Rattle.switch_core.{specs.declared.change.Change.Change, proofs.Lists.due-within}
use Rattle.written_machine.specs.{declared.line.Line.Line, GoodRun.CascadesEnd, Spent.stimulus_now}
use Rattle.written_machine.specs.{CheckedView.CheckedView, EventStep.after_event}
use Rattle.written_machine.specs.Moves.{TakesPart, Begins, ordinary, working}
use Rattle.written_machine.specs.declared.line.Happening.TheVariants as lines
use Rattle.cascade_rank.specs.{Cost.price_at, Ranks.rank_at, Verified.IsVerified}
use Rattle.cascade_rank.specs.{Events.weight_of, Cycle.first_open, LeadsTo.{is_grounded, is_open}}
use Rattle.cascade_rank.specs.Weights.{IsFitting, IsFittingAt, bound_of, bound_at}
use Rattle.cascade_rank.proofs.{Switches.acceptance-within_bound, Ranking.rank-fits, FirstEvent.first_event-None}
use Rattle.event_queue.specs.{declared.queue.Posted.Posted, PlanOrder.by_priority}
use Rattle.written_machine.specs.Machine.{Machine, initial, all_do, do_handler}
use Rattle.written_machine.specs.EventStep.{take_event, is_kept, before_handlers, handlers_in, EventStep, EventSteps}
use Rattle.written_machine.specs.Run.{Stimulus, IsAllowed, begin, InEveryRun}
use Rattle.written_machine.specs.StimulusCost.{cost_if_accepted, cost_of_stimulus, weigh}
use Rattle.written_machine.specs.Steps.{steps_at, event_now, steps_of, WorkIsBounded}
use Rattle.written_machine.proofs.Does.{potential, potential-does, AreOfPlan, WaitsInPlan, waits-does, HasStates}
use Rattle.written_machine.proofs.Does.{has_states-does, due-row, has_devices-does}
use Rattle.written_machine.proofs.Parts.{does-order, does-begin, does-before, does-after}
use Rattle.written_machine.proofs.Splits.{before-split, handlers-split, after-split, stimulus-split}
use Rattle.written_machine.proofs.Pricing.{handlers-priced, before-priced, after-priced, IsFired, stimulus-priced}
use Rattle.written_machine.proofs.{Pricing.fire-within_bound, Growth.event-grows}
use Rattle.written_machine.proofs.{Order.{order_cost, plan_order-step}, Keeps.{step-keeps, steps-keep, run-keeps}}
use Rattle.written_machine.proofs.Alarms.{has_states-step, has_states-begin, has_states-initial}

module _ (plan : PlanView) (valid : IsValid plan) where
  waits-step : (s t : Machine) → EventStep plan s t → WaitsInPlan plan s → WaitsInPlan plan t
  waits-step =
      step-keeps plan (λ before. WaitsInPlan plan) (λ first before. WaitsInPlan plan)
      (λ before first rest s is h.
      let front : AreOfPlan plan (first ∷ rest) = subst (AreOfPlan plan) is h in
      waits-does plan working valid.entries (does-before plan (work_of plan first.event) (take_event first rest s))
      front.1)
      (λ before first c s t d h. waits-does plan (ordinary plan (TakesPart s) ⊥) valid.entries d h)
      (λ before first kept s h. waits-does plan working valid.entries (does-after plan kept first.event s) h) []

-- a stimulus that may come costs at most what the dearest does
module _ (plan : PlanView) (unit : ℕ) (w : EventId → ℕ) where
  accepted_cost : (n : SwitchId) (taken : Bool) (a : Change) → a.switch ≡ n → n.0 < length plan.switches
      → price_at unit w (cost_if_accepted plan (if taken then Some a else None)) ≤ bound_at unit plan w
  accepted_cost n taken a is l = search (rules, acceptance-within_bound)

  pub stimulus_cost : HasEntries plan → (s : Machine) (stimulus : Stimulus) → HasStates plan s
      → IsAllowed plan s stimulus → price_at unit w (cost_of_stimulus plan s stimulus) ≤ bound_at unit plan w
  stimulus_cost entries s stimulus h allowed =
      search (rules, accepted_cost, due-within, acceptance-within_bound, fire-within_bound, due-row)

  -- a device that fires is one of the plan, and due
  fired : (entries : HasEntries plan) → (s : Machine) (stimulus : Stimulus) → HasStates plan s
      → IsAllowed plan s stimulus → IsFired plan entries unit w s stimulus
  fired entries s stimulus h allowed = search (rules, due-row)

module _ (plan : PlanView) where
  -- each event step gives a line
  pub step-line : (s t : Machine) → EventStep plan s t → length s.lines < length t.lines
  step-line s t st = search (rules, event-grows)

  pub steps-lines : (n : ℕ) (s t : Machine) → EventSteps plan n s t → length s.lines + n ≤ length t.lines
  steps-lines zero s t is = let same = ap (λ (m : Machine). length m.lines) is in omega (arith, same)
  steps-lines (suc n) s t (mid, step, more) = omega (arith, step-line s mid step, steps-lines n mid t more)

module _ (plan : PlanView) (valid : IsValid plan) (unit : ℕ) (w : EventId → ℕ) (fits : IsFittingAt unit plan w) where
  step-potential : (s t : Machine) (st : EventStep plan s t) → WaitsInPlan plan s → HasStates plan s
      → potential w t + steps_at unit (event_now plan s t st) ≤ potential w s
  step-potential s t st h states =
      let has = states.devices in
      let front : AreOfPlan plan (st.first ∷ st.rest) = subst (AreOfPlan plan) st.waiting h in
      let fit = fits st.first.event front.0 in
      let ready = before_handlers plan st.first st.rest s in
      let work = work_of plan st.first.event in
      let opens = does-before plan work (take_event st.first st.rest s) in
      let grown = potential-does plan w (does-order plan ready st.first.event st.order st.in_order) in
      let handlers = handlers-priced plan valid.entries unit w st.order ready (has_devices-does plan opens has) in
      let before = potential-does plan w opens in
      let starts = before-priced plan valid.entries unit w work (take_event st.first st.rest s) has in
      let done = all_do (do_handler plan) st.order ready in
      let after = potential-does plan w (does-after plan (is_kept work s) st.first.event done) in
      let begun : HasStates plan (take_event st.first st.rest s) =
      record {
        kinds = states.kinds;
        switches = states.switches;
        modes = states.modes;
        devices = states.devices;
        coils = states.coils;
        players = states.players;
      } in
      let handled = has_states-does plan (ordinary plan (TakesPart ready) ⊥)
      (does-order plan ready st.first.event st.order st.in_order) (has_states-does plan working opens begun) in
      let led = after-priced plan valid.entries unit w st.first.event work refl done handled.devices handled.coils
      handled.players in
      let paid = order_cost plan unit w ready st.first.event st.order st.in_order in
      let line = length-append s.lines (record
      { moment = s.moment; owner = st.first.owner; happening = lines.Event st.first.event } ∷ []) in
      let weighs = ap (weigh w) st.waiting in
      let is = ap (potential w) st.new_is in
      let split = before-split plan work (take_event st.first st.rest s) unit w in
      let splits = handlers-split plan st.order ready unit w in
      let parts = after-split plan work done unit w in
      omega (arith, fit, grown, handlers, before, starts, after, led, paid, line, weighs, is, split, splits, parts)

  -- the potential is within k, and each waiting event is one of the plan's
  pub record IsWithin (k : ℕ) (s : Machine) : Type 0 where
    pub most : potential w s ≤ k
    pub waits : WaitsInPlan plan s
    pub states : HasStates plan s

  within-step : (k : ℕ) (s t : Machine) → EventStep plan s t → IsWithin k s → IsWithin k t
  within-step k s t st h = record {
    most = let most = h.most in omega (arith, step-potential s t st h.waits h.states, most);
    waits = waits-step plan valid s t st h.waits;
    states = has_states-step plan s t st h.states;
  }

  -- a stimulus begins with no more than it costs
  within-begin : (stimulus : Stimulus) (s : Machine) → s.waiting ≡ [] → HasStates plan s → IsAllowed plan s stimulus
      → IsWithin (price_at unit w (cost_of_stimulus plan s stimulus)) (begin plan stimulus s)
  within-begin stimulus s empty has allowed = record {
    most =
        let none = ap (weigh w) empty in
        omega (
          arith,
          potential-does plan w (does-begin plan stimulus s),
          stimulus-split plan stimulus s unit w,
          stimulus-priced plan valid.entries unit w stimulus s
              (fired plan unit w valid.entries s stimulus has allowed) has.devices,
          none,
        );
    waits = waits-does plan (ordinary plan (Begins plan stimulus) (Unit {0})) valid.entries (does-begin plan stimulus s)
        (subst (AreOfPlan plan) (sym empty) tt);
    states = has_states-begin plan stimulus s has;
  }

  -- what a stimulus leads to stays within what it costs
  within-cascade : (stimulus : Stimulus) (s : Machine) → s.waiting ≡ [] → HasStates plan s → IsAllowed plan s stimulus
      → (n : ℕ) (t : Machine) → EventSteps plan n (begin plan stimulus s) t
      → IsWithin (price_at unit w (cost_of_stimulus plan s stimulus)) t
  within-cascade stimulus s empty has allowed n t steps =
      steps-keep plan (λ before. IsWithin (price_at unit w (cost_of_stimulus plan s stimulus)))
      (λ before. within-step (price_at unit w (cost_of_stimulus plan s stimulus))) [] n (begin plan stimulus s) t
      steps (within-begin stimulus s empty has allowed)

  -- every run stays within the bound
  pub within-run : InEveryRun plan (λ stimuli trace s. IsWithin (bound_at unit plan w) s)
  within-run stimuli trace s run =
      (run-keeps plan (λ before. IsWithin (bound_at unit plan w)) (λ before. within-step (bound_at unit plan w)) begins
      [] stimuli (initial plan) trace s run
      (record { most = omega arith; waits = tt; states = has_states-initial plan })).1
    where
      begins : (before : List Line) (stimulus : Stimulus) (m : Machine) → IsAllowed plan m stimulus → m.waiting ≡ []
          → IsWithin (bound_at unit plan w) m → IsWithin (bound_at unit plan w) (begin plan stimulus m)
      begins before stimulus m allowed empty h =
          let begun = within-begin stimulus m empty h.states allowed in
          let most = begun.most in
          record {
            most = omega (arith, most, stimulus_cost plan unit w valid.entries m stimulus h.states allowed);
            waits = begun.waits;
            states = begun.states;
          }

  -- each waiting event weighs at least 1
  waiting-weigh : (ps : List Posted) → AreOfPlan plan ps → length ps ≤ weigh w ps
  waiting-weigh [] h = omega arith
  waiting-weigh (p ∷ ps) h = search (rules, waiting-weigh ps h.1)

  -- event steps take no more steps than the potential falls, if a step costs 1
  pub steps-potential : (n : ℕ) (s t : Machine) (steps : EventSteps plan n s t) → WaitsInPlan plan s → HasStates plan s
      → unit ≡ 1 → potential w t + steps_of plan n s t steps ≤ potential w s
  steps-potential zero s t is waits states one = let same = ap (potential w) is in omega (arith, same)
  steps-potential (suc n) s t (mid, step, more) waits states one =
      let here = ap (λ (k : ℕ). steps_at k (event_now plan s mid step)) one in
      omega (
        arith,
        here,
        step-potential s mid step waits states,
        steps-potential n mid t more (waits-step plan valid s mid step waits) (has_states-step plan s mid step states)
            one,
      )

  -- a stimulus begins with no more than it costs, its steps included
  pub begin-potential : (stimulus : Stimulus) (s : Machine) → s.waiting ≡ [] → HasStates plan s
      → IsAllowed plan s stimulus
      → potential w (begin plan stimulus s) + steps_at unit (stimulus_now plan stimulus s)
      ≤ price_at unit w (cost_of_stimulus plan s stimulus)
  begin-potential stimulus s empty has allowed =
      let none = ap (weigh w) empty in
      omega (
        arith,
        potential-does plan w (does-begin plan stimulus s),
        stimulus-split plan stimulus s unit w,
        stimulus-priced plan valid.entries unit w stimulus s (fired plan unit w valid.entries s stimulus has allowed)
            has.devices,
        none,
      )

-- if the weights fit and the bound is theirs, each cascade ends within it
pub fitting-cascades_end : (c : CheckedView) → IsValid c.plan → IsFitting c.plan (weight_of c.weights)
    → c.bound ≡ bound_of c.plan (weight_of c.weights) → CascadesEnd c
fitting-cascades_end c valid fits bound =
    let plan = c.plan in
    let w = weight_of c.weights in
    record {
      within = λ stimuli trace s run.
          let here = within-run plan valid 0 w fits stimuli trace s run in
          let most = here.most in
          let heavy = waiting-weigh plan valid 0 w fits s.waiting here.waits in
          omega (arith, most, heavy, bound);
      goes_on = λ stimuli trace s run first rest is. (
        after_event plan first rest (by_priority plan
            (handlers_in plan (before_handlers plan first rest s) first.event)) s,
        plan_order-step plan s first rest is,
      );
      ends = λ stimuli trace s run empty stimulus allowed n t steps.
          let has = (within-run plan valid 0 w fits stimuli trace s run).states in
          let most = (within-cascade plan valid 0 w fits stimulus s empty has allowed n t steps).most in
          let cost = stimulus_cost plan 0 w valid.entries s stimulus has allowed in
          let lines = steps-lines plan n (begin plan stimulus s) t steps in
          omega (arith, most, cost, lines, bound);
      cost = λ stimuli trace s run empty stimulus allowed n t steps.
          (within-cascade plan valid 0 w fits stimulus s empty
          (within-run plan valid 0 w fits stimuli trace s run).states allowed n t steps).most;
    }

-- So it is if the weights of a plan were verified.
pub verified-cascades_end : (c : CheckedView) → IsValid c.plan → IsVerified c.plan c.weights c.bound → CascadesEnd c
verified-cascades_end c valid verified = fitting-cascades_end c valid verified.fits verified.bound_is

-- ---- work

-- If each event is grounded, each stimulus takes at most so many steps as the bound says.
pub work-bounded : (plan : PlanView) → IsValid plan → first_open plan ≡ None → WorkIsBounded plan
work-bounded plan valid closed stimuli trace s run empty stimulus allowed n t steps =
    let w = rank_at 1 plan in
    let fits : IsFittingAt 1 plan (rank_at 1 plan) =
    rank-fits plan valid.entries 1 (λ e there. not-false (is_grounded plan e)
    (first_event-None plan (is_open plan) closed e there)) in
    let has = (within-run plan valid 1 w fits stimuli trace s run).states in
    let begun = begin-potential plan valid 1 w fits stimulus s empty has allowed in
    let here = within-begin plan valid 1 w fits stimulus s empty has allowed in
    let fall = steps-potential plan valid 1 w fits n (begin plan stimulus s) t steps here.waits here.states refl in
    omega (arith, begun, fall, stimulus_cost plan 1 w valid.entries s stimulus has allowed)
