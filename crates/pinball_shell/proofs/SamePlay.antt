-- The bound says only how many event steps there may be, and not what they do.
use Rattle.std.proofs.Common.{rules, ◌≡◌, ℕ, zero, suc, ◌+◌, ◌<◌, ◌≤◌, ◌^◌, Option, Some, Result, Ok, List, [], ◌∷◌}
use Rattle.std.proofs.Common.{◌++◌, map, inl, inr, refl, ap, sym, ◌∙◌, subst, arith}
use Rattle.plan_tables.specs.PlanView.{PlanView}
use Rattle.written_machine.specs.{declared.line.Line.Line, CheckedView.CheckedView}
use Rattle.written_machine.specs.{Machine.Machine, AlarmsBy.{alarms_by, state_after}, Accepted.IsAccepted}
use Rattle.written_machine.specs.{PlanOrder.settle_all, NextAlarm.most_alarms}
use Rattle.written_machine.specs.Run.{Stimulus, Alarm, moment_of, IsNoAlarmDueBy, IsAllowed, IsReached}
use Rattle.written_machine.proofs.{Alarms.settled-moment, Cascade.verified-cascades_end}
use Rattle.written_machine.proofs.AlarmsEnd.{alarms_by-none, alarms_by-more, alarms_by-all}
use Rattle.written_machine.proofs.{PlanSteps.{settled-idle, settled-same}, Reached.{reached-initial, reached-next}}
use Rattle.pinball_shell.specs.{declared.refusal.LogRefusal.LogRefusal, LogText.meaning}
use Rattle.pinball_shell.specs.RunOfLog.{given_by_line, trace_of, all_alarms_by, with_alarms, PrintedLine, Traced}
use Rattle.pinball_shell.specs.RunOfLog.{printed_for_line, after_line, printed_for_lines, printed_for_log}
use Rattle.pinball_shell.proofs.Alarms.{cases_due, alarm-allowed, AreAll, all-next}
use Rattle.pinball_shell.proofs.Stimuli.{state_after-append, trace_of-append}
use Rattle.pinball_shell.proofs.LogRuns.{IsGivenInTime, given-in_time, in_time-early, may_come}

module _ (plan : PlanView) (ws vs : List ℕ) (a b : ℕ) where
  abbrev one : CheckedView
  one = record { plan = plan; weights = ws; bound = a }

  abbrev other : CheckedView
  other = record { plan = plan; weights = vs; bound = b }

  module _ (one_is : IsAccepted one) (other_is : IsAccepted other) where
    -- some run leads to the state, and no event waits in it
    abbrev Reached : Machine → Type 0
    Reached s = (trace : List Line) × IsReached plan trace s

    next-reached : (s : Machine) → Reached s → (stimulus : Stimulus) → IsAllowed plan s stimulus
        → Reached (settle_all plan a stimulus s)
    next-reached s (trace, h) stimulus allowed =
        (trace ++ (settle_all plan a stimulus s).lines, reached-next one one_is trace s h stimulus allowed)

    -- a stimulus leads to one state: no event waits in it
    settled-one : (s : Machine) → Reached s → (stimulus : Stimulus) → IsAllowed plan s stimulus
        → settle_all plan b stimulus s ≡ settle_all plan a stimulus s
    settled-one s (trace, h) stimulus allowed =
        settled-same one (verified-cascades_end one one_is.valid one_is.weights_fit) h.stimuli trace s h.run h.idle
        stimulus allowed b
        (settled-idle other (verified-cascades_end other other_is.valid other_is.weights_fit) h.stimuli trace s h.run
        h.idle stimulus allowed)

    -- these stimuli lead to one state, with the same lines
    record AreSame (s : Machine) (stimuli others : List Stimulus) : Type 0 where
      same : others ≡ stimuli
      state : state_after plan b stimuli s ≡ state_after plan a stimuli s
      output : trace_of plan b stimuli s ≡ trace_of plan a stimuli s
      reach : Reached (state_after plan a stimuli s)

    -- and after them nothing is due by the moment
    record AreSameUntil (until : ℕ) (s : Machine) (stimuli others : List Stimulus) : Type 0 where
      are : AreSame s stimuli others
      quiet : IsNoAlarmDueBy (state_after plan a stimuli s) until
      moment : (state_after plan a stimuli s).moment ≤ until

    same-more : (s : Machine) (first : Stimulus) (stimuli others : List Stimulus)
        → settle_all plan b first s ≡ settle_all plan a first s → AreSame (settle_all plan a first s) stimuli others
        → AreSame s (first ∷ stimuli) (first ∷ others)
    same-more s first stimuli others is h = record {
      same = ap (λ (xs : List Stimulus). first ∷ xs) h.same;
      state = ap (state_after plan b stimuli) is ∙ h.state;
      output = ap (λ (m : Machine). m.lines ++ trace_of plan b stimuli m) is
          ∙ ap (λ (ls : List Line). (settle_all plan a first s).lines ++ ls) h.output;
      reach = h.reach;
    }

    same-none : (until : ℕ) (s : Machine) → Reached s → IsNoAlarmDueBy s until → s.moment ≤ until
        → AreSameUntil until s [] []
    same-none until s reach nothing before = record {
      are = record { same = refl; state = refl; output = refl; reach = reach };
      quiet = nothing;
      moment = before;
    }

    same-alarms : (until : ℕ) → until < 2 ^ 40 → (fuel : ℕ) (s : Machine) → Reached s → AreAll plan a until fuel s
        → s.moment ≤ until → AreSameUntil until s (alarms_by plan a until fuel s) (alarms_by plan b until fuel s)
    same-alarms until early zero s reach all before = same-none until s reach all before
    same-alarms until early (suc k) s reach all before =
        elim (cases_due s until) [
          | inl nothing ↦
              subst (λ (xs : List Stimulus). AreSameUntil until s xs (alarms_by plan b until (suc k) s))
              (sym (alarms_by-none plan a until (suc k) s nothing))
              (subst (AreSameUntil until s []) (sym (alarms_by-none plan b until (suc k) s nothing))
              (same-none until s reach nothing before))
          | inr x ↦
              let alarm = Alarm x.at x.source in
              let by = x.by in
              let there = settle_all plan a alarm s in
              let allowed = alarm-allowed plan s until early x in
              let here = settled-moment plan a alarm s in
              let rest = same-alarms until early k there (next-reached s reach alarm allowed)
              (all-next plan a until k s x all) (omega (arith, here, by)) in
              let one_state = settled-one s reach alarm allowed in
              let both = same-more s alarm (alarms_by plan a until k there) (alarms_by plan b until k there) one_state
              rest.are in
              subst (λ (xs : List Stimulus). AreSameUntil until s xs (alarms_by plan b until (suc k) s))
              (sym (alarms_by-more plan a until k s x.at x.source x.next x.by))
              (subst (AreSameUntil until s (alarm ∷ alarms_by plan a until k there))
              (sym (alarms_by-more plan b until k s x.at x.source x.next x.by))
              (record {
                are = subst (λ (m : Machine). AreSame s (alarm ∷ alarms_by plan a until k there)
                    (alarm ∷ alarms_by plan b until k m)) (sym one_state) both;
                quiet = rest.quiet;
                moment = rest.moment;
              }))
        ]

    same-then : (s : Machine) (stimuli others : List Stimulus) → AreSame s stimuli others → (last : Stimulus)
        → IsAllowed plan (state_after plan a stimuli s) last → AreSame s (stimuli ++ last ∷ []) (others ++ last ∷ [])
    same-then s [] others h last allowed =
        subst (λ (xs : List Stimulus). AreSame s (last ∷ []) (xs ++ last ∷ [])) (sym h.same)
        (same-more s last [] [] (settled-one s h.reach last allowed)
        (record { same = refl; state = refl; output = refl; reach = next-reached s h.reach last allowed }))
    same-then s (first ∷ stimuli) others h last allowed =
        let all = first ∷ stimuli in
        let there = state_after plan a all s in
        let ends = settled-one there h.reach last allowed in
        record {
          same = ap (λ (xs : List Stimulus). xs ++ last ∷ []) h.same;
          state = state_after-append plan b all (last ∷ []) s ∙ ap (settle_all plan b last) h.state ∙ ends
              ∙ sym (state_after-append plan a all (last ∷ []) s);
          output =
              trace_of-append plan b all (last ∷ []) s
              ∙ (λ i. h.output i ++ trace_of plan b (last ∷ []) (h.state i))
              ∙ ap (λ (m : Machine). trace_of plan a all s ++ (m.lines ++ [])) ends
              ∙ sym (trace_of-append plan a all (last ∷ []) s);
          reach = subst Reached (sym (state_after-append plan a all (last ∷ []) s))
              (next-reached there h.reach last allowed);
        }

    -- a stimulus that a line gives, after the alarms due by its moment
    same-given : (s : Machine) → Reached s → (stimulus : Stimulus) → IsGivenInTime plan s.moment stimulus
        → AreSame s (with_alarms plan a stimulus s) (with_alarms plan b stimulus s)
    same-given s (trace, h) stimulus time =
        let (forward, early) = in_time-early plan s.moment stimulus time in
        let until = moment_of stimulus in
        let alarms = same-alarms until early (most_alarms plan until s) s (trace, h)
        (alarms_by-all plan a one_is.valid until trace s h) forward in
        same-then s (all_alarms_by plan a until s) (all_alarms_by plan b until s) alarms.are stimulus
        (may_come plan s.moment (state_after plan a (all_alarms_by plan a until s) s) stimulus time alarms.moment
        alarms.quiet)

    -- the same is printed for a line, and it leads to one state
    record IsSameLine (number : ℕ) (s : Machine) (given : Result (Option Stimulus) LogRefusal) : Type 0 where
      output : printed_for_line plan b number s given ≡ printed_for_line plan a number s given
      state : after_line plan b s given ≡ after_line plan a s given
      reach : Reached (after_line plan a s given)

    same-line : (number : ℕ) (s : Machine) → Reached s → (given : Result (Option Stimulus) LogRefusal)
        → ((stimulus : Stimulus) → given ≡ Ok (Some stimulus) → IsGivenInTime plan s.moment stimulus)
        → IsSameLine number s given
    same-line number s reach (Ok (Some stimulus)) time =
        let h = same-given s reach stimulus (time stimulus refl) in
        record {
          output = ap (map Traced) (ap (λ (xs : List Stimulus). trace_of plan b xs s) h.same ∙ h.output);
          state = ap (λ (xs : List Stimulus). state_after plan b xs s) h.same ∙ h.state;
          reach = h.reach;
        }
    same-line number s reach _ time = record { output = refl; state = refl; reach = reach }

    same-lines : (number : ℕ) (log : List (List ℕ)) (s : Machine) → Reached s
        → printed_for_lines plan b number log s ≡ printed_for_lines plan a number log s
    same-lines number [] s reach = refl
    same-lines number (line ∷ more) s reach =
        let given = given_by_line plan s.moment (meaning line) in
        let h = same-line number s reach given (given-in_time plan s.moment (meaning line)) in
        (λ i. h.output i ++ printed_for_lines plan b (number + 1) more (h.state i))
        ∙ ap (λ (rest : List PrintedLine). printed_for_line plan a number s given ++ rest)
        (same-lines (number + 1) more (after_line plan a s given) h.reach)

pub plays_the_same : (c d : CheckedView) → IsAccepted c → IsAccepted d → c.plan ≡ d.plan → (log : List ℕ)
    → printed_for_log c.plan c.bound log ≡ printed_for_log d.plan d.bound log
plays_the_same c d c_is d_is same log = search (rules, same, same-lines, reached-initial)
