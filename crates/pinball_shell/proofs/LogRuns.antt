-- The trace of a log is that of a run which the log gives.
use Rattle.std.proofs.Common.{rules, ◌≡◌, ◌≢◌, ℕ, zero, suc, ◌+◌, ◌<◌, ◌≤◌, ◌^◌, Bool, true, false, Option, Some}
use Rattle.std.proofs.Common.{option_to_list, Result, Ok, List, [], ◌∷◌, ◌++◌, length, inl, inr, refl, ap, sym, ◌∙◌}
use Rattle.std.{proofs.Common.{subst, arith, append_assoc, append-nil}, specs.{Option.option_map_or, Str.Lines.lines}}
use Rattle.plan_tables.specs.PlanView.{PlanView}
use Rattle.written_machine.specs.{declared.line.Line.Line, Machine.{Machine, initial}}
use Rattle.written_machine.specs.{CheckedView.CheckedView, Run.{begin, IsReached}}
use Rattle.written_machine.specs.{AlarmsBy.{alarms_by, state_after}, PlanOrder.{plan_steps, settle_all}}
use Rattle.written_machine.specs.{NextAlarm.most_alarms, Accepted.IsAccepted}
use Rattle.written_machine.specs.Run.{Source, Stimulus, SwitchChange, Alarm, Wait, moment_of, IsNoAlarmDueBy, IsAllowed}
use Rattle.written_machine.proofs.{Alarms.settled-moment, Cascade.verified-cascades_end}
use Rattle.written_machine.proofs.AlarmsEnd.{alarms_by-none, alarms_by-more, alarms_by-all}
use Rattle.written_machine.proofs.PlanSteps.{settled-run, settled-idle, settled-steps}
use Rattle.pin_rig.{specs.{declared.input.StepFault.StepFault, Refused.admission}, proofs.Judging.admitted-is}
use Rattle.pinball_shell.specs.declared.refusal.LogRefusal.{LogRefusal}
use Rattle.pinball_shell.specs.{LogText.{LogLine, meaning}, RunGiven.IsPlayOfLog}
use Rattle.pinball_shell.specs.RunOfLog.{if_admitted, given_by_line, trace_of, all_alarms_by, with_alarms}
use Rattle.pinball_shell.specs.RunOfLog.{printed_for_line, after_line, printed_for_lines, printed_for_log, trace_in}
use Rattle.pinball_shell.specs.RunGiven.{given_of, given_by_lines, stimuli_of, without_alarms, IsRunInOrder}
use Rattle.pinball_shell.proofs.{FirstPlace.place_some, Serving.{traced-append, traced-lines}}
use Rattle.pinball_shell.proofs.Alarms.{cases_due, alarm-allowed, AreAll, all-next}
use Rattle.pinball_shell.proofs.Stimuli.{state_after-append, trace_of-append}

-- ---- what a line gives comes in time

-- a change of a switch of the plan, or a wait, at a moment that does not go back and is not too late
abbrev pub IsGivenInTime : PlanView → ℕ → Stimulus → Type 0
IsGivenInTime plan now (SwitchChange at n level) = (now ≤ at) × (at < 2 ^ 40) × (n.0 < length plan.switches)
IsGivenInTime plan now (Alarm at source) = ⊥
IsGivenInTime plan now (Wait at) = (now ≤ at) × (at < 2 ^ 40)

given_is : (a b : Stimulus) → ◌≡◌ {A = Result (Option Stimulus) LogRefusal} (Ok (Some a)) (Ok (Some b)) → a ≡ b
given_is a b h = cc

in_time : (now at : ℕ) (stimulus given : Stimulus) → if_admitted (admission now at) stimulus ≡ Ok (Some given)
    → (now ≤ at) × (at < 2 ^ 40) × (stimulus ≡ given)
in_time now at stimulus given = go (admission now at) refl
  where
    go : (r : Result Unit StepFault) → admission now at ≡ r → if_admitted r stimulus ≡ Ok (Some given)
        → (now ≤ at) × (at < 2 ^ 40) × (stimulus ≡ given)
    go x1 is h = search (rules, admitted-is, given_is)

module _ (plan : PlanView) (now : ℕ) where
  pub given-in_time : (line : LogLine) (stimulus : Stimulus) → given_by_line plan now line ≡ Ok (Some stimulus)
      → IsGivenInTime plan now stimulus
  given-in_time x1 stimulus h = search (rules, in_time, place_some)

-- in time, and nothing is due any more: it may come
pub may_come : (plan : PlanView) (now : ℕ) (s : Machine) (stimulus : Stimulus) → IsGivenInTime plan now stimulus
    → s.moment ≤ moment_of stimulus → IsNoAlarmDueBy s (moment_of stimulus) → IsAllowed plan s stimulus
may_come plan now s x4 x5 ahead quiet = search (rules, quiet)

pub in_time-early : (plan : PlanView) (now : ℕ) (stimulus : Stimulus) → IsGivenInTime plan now stimulus
    → (now ≤ moment_of stimulus) × (moment_of stimulus < 2 ^ 40)
in_time-early plan now x3 x4 = search rules

-- ---- the stimuli of a run

without_alarms-append : (xs ys : List Stimulus) → without_alarms (xs ++ ys) ≡ without_alarms xs ++ without_alarms ys
without_alarms-append [] ys = refl
without_alarms-append (SwitchChange at n level ∷ xs) ys =
    ap (λ (given : List Stimulus). SwitchChange at n level ∷ given) (without_alarms-append xs ys)
without_alarms-append (Alarm at source ∷ xs) ys = without_alarms-append xs ys
without_alarms-append (Wait at ∷ xs) ys = ap (λ (given : List Stimulus). Wait at ∷ given) (without_alarms-append xs ys)

-- one stimulus more at the end
stimuli_of-push : (xs : List (Stimulus × ℕ)) (stimulus : Stimulus) (k : ℕ)
    → stimuli_of (xs ++ (stimulus, k) ∷ []) ≡ stimuli_of xs ++ stimulus ∷ []
stimuli_of-push [] stimulus k = refl
stimuli_of-push (x ∷ xs) stimulus k = ap (λ (more : List Stimulus). x.0 ∷ more) (stimuli_of-push xs stimulus k)

-- of a run in plan order too
in_order-push : (plan : PlanView) (xs : List Stimulus) (old : Machine) (trace : List Line) (s : Machine)
    → IsRunInOrder plan xs old trace s → (stimulus : Stimulus) → IsAllowed plan s stimulus
    → (n : ℕ) → (plan_steps plan n (begin plan stimulus s)).waiting ≡ []
    → IsRunInOrder plan (xs ++ stimulus ∷ []) old (trace ++ (plan_steps plan n (begin plan stimulus s)).lines)
    (plan_steps plan n (begin plan stimulus s))
in_order-push plan [] old trace s (none, is) stimulus allowed n idle =
    let t = plan_steps plan n (begin plan stimulus s) in
    subst (λ (m : Machine). IsRunInOrder plan (stimulus ∷ []) m (trace ++ t.lines) t) is
    (allowed, (n, (idle, ([], (refl, refl), ap (λ (ls : List Line). ls ++ t.lines) none ∙ sym (append-nil t.lines)))))
in_order-push plan (x ∷ xs) old trace s (first, (k, (idle_first, (rest, run, is)))) stimulus allowed n idle =
    let mid = plan_steps plan k (begin plan x old) in
    let t = plan_steps plan n (begin plan stimulus s) in (
      first,
      (
        k,
        (
          idle_first,
          (
            rest ++ t.lines,
            in_order-push plan xs mid rest s run stimulus allowed n idle,
            ap (λ (ls : List Line). ls ++ t.lines) is ∙ append_assoc mid.lines rest t.lines,
          ),
        ),
      ),
    )

abbrev is_alarm : Stimulus → Bool
is_alarm (Alarm at source) = true
is_alarm _ = false

-- whether the last of them is an alarm, or `none` if there is none
abbrev ends_with_alarm : Bool → List Stimulus → Bool
ends_with_alarm none [] = none
ends_with_alarm none (stimulus ∷ more) = ends_with_alarm (is_alarm stimulus) more

ends_with_alarm-last : (none : Bool) (xs : List Stimulus) (stimulus : Stimulus)
    → ends_with_alarm none (xs ++ stimulus ∷ []) ≡ is_alarm stimulus
ends_with_alarm-last none [] stimulus = refl
ends_with_alarm-last none (first ∷ xs) stimulus = ends_with_alarm-last (is_alarm first) xs stimulus

-- no alarm is the last
no_alarm_last : (stimuli : List Stimulus) → ends_with_alarm false stimuli ≡ false
    → (before : List Stimulus) (at : ℕ) (source : Source) → stimuli ≢ before ++ Alarm at source ∷ []
no_alarm_last stimuli none before at source is =
    differ (sym none ∙ ap (ends_with_alarm false) is ∙ ends_with_alarm-last false before (Alarm at source))
  where
    differ : false ≡ true → ⊥
    differ e = cc

-- what comes in time is no alarm
in_time-given : (plan : PlanView) (now : ℕ) (stimulus : Stimulus) → IsGivenInTime plan now stimulus
    → without_alarms (stimulus ∷ []) ≡ stimulus ∷ []
in_time-given plan now x3 x4 = search rules

in_time-no_alarm : (plan : PlanView) (now : ℕ) (stimulus : Stimulus) → IsGivenInTime plan now stimulus
    → is_alarm stimulus ≡ false
in_time-no_alarm plan now x3 x4 = search rules

module _ (c : CheckedView) (accepted : IsAccepted c) where
  -- Some run in plan order was given these stimuli, and alarms, and whether one of those came last; it has this trace
  -- and leads to this state, in which no event waits.
  record IsRunGiven (given : List Stimulus) (alarm : Bool) (trace : List Line) (s : Machine) : Type 0 where
    reach : IsReached c.plan trace s
    order : IsRunInOrder c.plan (stimuli_of reach.stimuli) (initial c.plan) trace s
    given_is : without_alarms (stimuli_of reach.stimuli) ≡ given
    last : ends_with_alarm false (stimuli_of reach.stimuli) ≡ alarm

  given-initial : IsRunGiven [] false [] (initial c.plan)
  given-initial =
      record {
        reach = record { stimuli = []; run = (refl, refl); idle = refl };
        order = (refl, refl);
        given_is = refl;
        last = refl;
      }

  -- one stimulus more
  given-next : (given : List Stimulus) (alarm : Bool) (trace : List Line) (s : Machine) → IsRunGiven given alarm trace s
      → (stimulus : Stimulus) → IsAllowed c.plan s stimulus
      → (more : List Stimulus) → without_alarms (stimulus ∷ []) ≡ more
      → IsRunGiven (given ++ more) (is_alarm stimulus) (trace ++ (settle_all c.plan c.bound stimulus s).lines)
      (settle_all c.plan c.bound stimulus s)
  given-next given alarm trace s h stimulus allowed more is =
      let good = verified-cascades_end c accepted.valid accepted.weights_fit in
      let r = h.reach in
      let steps = settled-steps c good r.stimuli trace s r.run r.idle stimulus allowed in
      let idle = settled-idle c good r.stimuli trace s r.run r.idle stimulus allowed in
      let names = stimuli_of-push r.stimuli stimulus steps.0 in
      let next = settle_all c.plan c.bound stimulus s in
      record {
        reach = record {
          stimuli = r.stimuli ++ (stimulus, steps.0) ∷ [];
          run = settled-run c good r.stimuli trace s r.run r.idle stimulus allowed;
          idle = idle;
        };
        order = search (rules, in_order-push);
        given_is =
            ap without_alarms names ∙ without_alarms-append (stimuli_of r.stimuli) (stimulus ∷ [])
            ∙ ap (λ (gs : List Stimulus). gs ++ without_alarms (stimulus ∷ [])) h.given_is
            ∙ ap (λ (gs : List Stimulus). given ++ gs) is;
        last = ap (ends_with_alarm false) names ∙ ends_with_alarm-last false (stimuli_of r.stimuli) stimulus;
      }

  -- these alarms come, and after them nothing is due by the moment
  record IsRunUntil (until : ℕ) (given : List Stimulus) (trace : List Line) (s : Machine) (stimuli : List Stimulus) :
      Type 0 where
    alarm : Bool
    run : IsRunGiven given alarm (trace ++ trace_of c.plan c.bound stimuli s) (state_after c.plan c.bound stimuli s)
    quiet : IsNoAlarmDueBy (state_after c.plan c.bound stimuli s) until
    moment : (state_after c.plan c.bound stimuli s).moment ≤ until

  run-none : (until : ℕ) (given : List Stimulus) (alarm : Bool) (trace : List Line) (s : Machine)
      → IsRunGiven given alarm trace s → s.moment ≤ until → IsNoAlarmDueBy s until → IsRunUntil until given trace s []
  run-none until given alarm trace s run early quiet = record {
    alarm = alarm;
    run = subst (λ (ls : List Line). IsRunGiven given alarm ls s) (sym (append-nil trace)) run;
    quiet = quiet;
    moment = early;
  }

  run-more : (until : ℕ) (given : List Stimulus) (trace : List Line) (s : Machine) (alarm : Stimulus)
      (more : List Stimulus) → IsRunUntil until given (trace ++ (settle_all c.plan c.bound alarm s).lines)
      (settle_all c.plan c.bound alarm s) more → IsRunUntil until given trace s (alarm ∷ more)
  run-more until given trace s alarm more h =
      let next = settle_all c.plan c.bound alarm s in
      record {
        alarm = h.alarm;
        run = subst (λ (ls : List Line). IsRunGiven given h.alarm ls (state_after c.plan c.bound more next))
            (append_assoc trace next.lines (trace_of c.plan c.bound more next)) h.run;
        quiet = h.quiet;
        moment = h.moment;
      }

  -- an alarm changes nothing of what was given
  given-alarm : (given : List Stimulus) (alarm : Bool) (trace : List Line) (s : Machine)
      → IsRunGiven given alarm trace s → (at : ℕ) (source : Source) → IsAllowed c.plan s (Alarm at source)
      → IsRunGiven given true (trace ++ (settle_all c.plan c.bound (Alarm at source) s).lines)
      (settle_all c.plan c.bound (Alarm at source) s)
  given-alarm given alarm trace s h at source allowed =
      let next = settle_all c.plan c.bound (Alarm at source) s in
      subst (λ (gs : List Stimulus). IsRunGiven gs true (trace ++ next.lines) next) (append-nil given)
      (given-next given alarm trace s h (Alarm at source) allowed [] refl)

  -- the alarms due by the moment, if so much fuel is enough for all
  run-alarms : (until : ℕ) → until < 2 ^ 40
      → (given : List Stimulus) (fuel : ℕ) (alarm : Bool) (trace : List Line) (s : Machine)
      → IsRunGiven given alarm trace s → AreAll c.plan c.bound until fuel s → s.moment ≤ until
      → IsRunUntil until given trace s (alarms_by c.plan c.bound until fuel s)
  run-alarms until early given zero alarm trace s run all before = run-none until given alarm trace s run before all
  run-alarms until early given (suc k) alarm trace s run all before =
      elim (cases_due s until) [
        | inl nothing ↦
            subst (IsRunUntil until given trace s) (sym (alarms_by-none c.plan c.bound until (suc k) s nothing))
            (run-none until given alarm trace s run before nothing)
        | inr a ↦
            let next = settle_all c.plan c.bound (Alarm a.at a.source) s in
            let here = settled-moment c.plan c.bound (Alarm a.at a.source) s in
            let by = a.by in
            let more = run-alarms until early given k true (trace ++ next.lines) next
            (given-alarm given alarm trace s run a.at a.source (alarm-allowed c.plan s until early a))
            (all-next c.plan c.bound until k s a all) (omega (arith, here, by)) in
            subst (IsRunUntil until given trace s)
            (sym (alarms_by-more c.plan c.bound until k s a.at a.source a.next a.by))
            (run-more until given trace s (Alarm a.at a.source) (alarms_by c.plan c.bound until k next) more)
      ]

  -- a stimulus that a line gives, after the alarms due by its moment
  run-given : (given : List Stimulus) (trace : List Line) (s : Machine) (stimulus : Stimulus)
      → IsRunGiven given false trace s → IsGivenInTime c.plan s.moment stimulus
      → IsRunGiven (given ++ stimulus ∷ []) false
      (trace ++ trace_of c.plan c.bound (with_alarms c.plan c.bound stimulus s) s)
      (state_after c.plan c.bound (with_alarms c.plan c.bound stimulus s) s)
  run-given given trace s stimulus run time =
      let (forward, early) = in_time-early c.plan s.moment stimulus time in
      let until = moment_of stimulus in
      let alarms = all_alarms_by c.plan c.bound until s in
      let all = alarms_by-all c.plan c.bound accepted.valid until trace s run.reach in
      let h = run-alarms until early given (most_alarms c.plan until s) false trace s run all forward in
      let there = state_after c.plan c.bound alarms s in
      let next = settle_all c.plan c.bound stimulus there in
      let last = given-next given h.alarm (trace ++ trace_of c.plan c.bound alarms s) there h.run stimulus
      (may_come c.plan s.moment there stimulus time h.moment h.quiet)
      (stimulus ∷ []) (in_time-given c.plan s.moment stimulus time) in
      let played : trace_of c.plan c.bound (with_alarms c.plan c.bound stimulus s) s
      ≡ trace_of c.plan c.bound alarms s ++ next.lines =
      trace_of-append c.plan c.bound alarms (stimulus ∷ []) s
      ∙ ap (λ (ls : List Line). trace_of c.plan c.bound alarms s ++ ls) (append-nil next.lines) in
      let all_given = given ++ stimulus ∷ [] in
      subst (λ (m : Machine). IsRunGiven all_given false
      (trace ++ trace_of c.plan c.bound (with_alarms c.plan c.bound stimulus s) s) m)
      (sym (state_after-append c.plan c.bound alarms (stimulus ∷ []) s))
      (subst (λ (ls : List Line). IsRunGiven all_given false ls next)
      (append_assoc trace (trace_of c.plan c.bound alarms s) next.lines
      ∙ ap (λ (ls : List Line). trace ++ ls) (sym played))
      (subst (λ (b : Bool). IsRunGiven all_given b ((trace ++ trace_of c.plan c.bound alarms s) ++ next.lines) next)
      (in_time-no_alarm c.plan s.moment stimulus time) last))

  -- if nothing is given, the run goes on as it was
  run-nothing : (given : List Stimulus) (trace : List Line) (s : Machine) → IsRunGiven given false trace s
      → IsRunGiven (given ++ []) false (trace ++ []) s
  run-nothing given trace s run = search (rules, run, append-nil)

  run-line : (number : ℕ) (given : List Stimulus) (trace : List Line) (s : Machine) (line : LogLine)
      → IsRunGiven given false trace s → (is : Result (Option Stimulus) LogRefusal)
      → given_by_line c.plan s.moment line ≡ is
      → IsRunGiven (given ++ option_to_list (given_of is)) false
      (trace ++ trace_in (printed_for_line c.plan c.bound number s is)) (after_line c.plan c.bound s is)
  run-line number given trace s line run (Ok (Some stimulus)) is =
      let played = trace_of c.plan c.bound (with_alarms c.plan c.bound stimulus s) s in
      subst (λ (ls : List Line). IsRunGiven (given ++ stimulus ∷ []) false (trace ++ ls)
      (state_after c.plan c.bound (with_alarms c.plan c.bound stimulus s) s)) (sym (traced-lines played))
      (run-given given trace s stimulus run (given-in_time c.plan s.moment line stimulus is))
  run-line number given trace s line run _ is = run-nothing given trace s run

  -- the latest moment is that of the latest stimulus that was given
  latest-given : (s : Machine) (is : Result (Option Stimulus) LogRefusal)
      → (after_line c.plan c.bound s is).moment ≡ option_map_or moment_of (given_of is) s.moment
  latest-given s (Ok (Some stimulus)) =
      let alarms = all_alarms_by c.plan c.bound (moment_of stimulus) s in
      ap (λ (m : Machine). m.moment) (state_after-append c.plan c.bound alarms (stimulus ∷ []) s)
      ∙ settled-moment c.plan c.bound stimulus (state_after c.plan c.bound alarms s)
  latest-given s _ = refl

  run-lines : (number : ℕ) (log : List (List ℕ)) (given : List Stimulus) (trace : List Line) (s : Machine)
      → IsRunGiven given false trace s
      → (t : Machine) × IsRunGiven (given ++ given_by_lines c.plan s.moment log) false
      (trace ++ trace_in (printed_for_lines c.plan c.bound number log s)) t
  run-lines number [] given trace s run = (s, run-nothing given trace s run)
  run-lines number (line ∷ more) given trace s run =
      let is = given_by_line c.plan s.moment (meaning line) in
      let output = printed_for_line c.plan c.bound number s is in
      let next = after_line c.plan c.bound s is in
      let here = option_to_list (given_of is) in
      let rest = printed_for_lines c.plan c.bound (number + 1) more next in
      let (t, last) = run-lines (number + 1) more (given ++ here) (trace ++ trace_in output) next
      (run-line number given trace s (meaning line) run is refl) in
      let stimuli : (given ++ here) ++ given_by_lines c.plan next.moment more
      ≡ given ++ (here ++ given_by_lines c.plan (option_map_or moment_of (given_of is) s.moment) more) =
      append_assoc given here (given_by_lines c.plan next.moment more)
      ∙ ap (λ (now : ℕ). given ++ (here ++ given_by_lines c.plan now more)) (latest-given s is) in
      let traces : (trace ++ trace_in output) ++ trace_in rest ≡ trace ++ trace_in (output ++ rest) =
      append_assoc trace (trace_in output) (trace_in rest)
      ∙ ap (λ (ls : List Line). trace ++ ls) (sym (traced-append output rest)) in (
        t,
        subst (λ (gs : List Stimulus). IsRunGiven gs false (trace ++ trace_in (output ++ rest)) t) stimuli
            (subst (λ (ls : List Line). IsRunGiven ((given ++ here) ++ given_by_lines c.plan next.moment more) false ls
            t) traces last),
      )

  -- the lines that a log leads to are the trace of the run that it gives
  pub log_is_run : (log : List ℕ) → IsPlayOfLog c.plan log (trace_in (printed_for_log c.plan c.bound log))
  log_is_run log =
      let (t, h) = run-lines 1 (lines log) [] [] (initial c.plan) given-initial in
      record {
        run =
            record {
              end = t;
              reach = h.reach;
              inputs = h.given_is;
              last = no_alarm_last (stimuli_of h.reach.stimuli) h.last;
            };
        order = h.order;
      }
