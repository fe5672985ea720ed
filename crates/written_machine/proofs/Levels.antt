-- The stimuli of a run are calls of the switches. So what is accepted after every list of calls is accepted in every
-- run.
use Rattle.std.proofs.Common.{rules, ◌≡◌, ℕ, ◌≤◌, List, [], ◌∷◌, ap, sym, ◌∙◌, subst, arith}
use Rattle.plan_tables.specs.{PlanView.PlanView, Valid.IsValid}
use Rattle.switch_core.specs.Switches.{SwitchesView, all_idle, active_at, IsNothingDueBy as IsNoSwitchDueBy}
use Rattle.switch_core.specs.Calls.{SwitchCall, Fire, call_moment, after_call, after_calls, last_moment, IsInTime}
use Rattle.switch_core.{specs.Calls.AreInTime, proofs.{DueMoments.fire-accepts, Following.levels_are_accepted}}
use Rattle.switch_core.specs.Calls as calls
use Rattle.written_machine.specs.{declared.line.Line.Line, SwitchCalls.switch_calls}
use Rattle.written_machine.proofs.{NextAlarms.next_alarm-due, Alarms.{not_late-initial, forward}}
use Rattle.written_machine.specs.{Machine.{Machine, initial}, GoodRun.LevelsFollowRawChanges}
use Rattle.written_machine.specs.Run.{switch, device, Stimulus, SwitchChange, Alarm, Wait, IsNothingLate, begin, IsRun}
use Rattle.written_machine.proofs.Alarms.{switches-steps, switches-begin, moment-after, not_late-after}

-- The calls that stimuli make are in time, and lead from the switches of one state to those of the other.
record IsCalled (moment : ℕ) (stimuli : List (Stimulus × ℕ)) (s t : Machine) : Type 0 where
  in_time : AreInTime moment s.switches (switch_calls stimuli)
  after : after_calls (switch_calls stimuli) s.switches ≡ t.switches
  last : last_moment moment (switch_calls stimuli) ≤ t.moment

-- a stimulus that makes a call, and then others
called-next : (moment : ℕ) (call : SwitchCall) (more : List SwitchCall) (s mid t : Machine) → moment ≤ call_moment call
    → IsInTime s.switches call → after_call call s.switches ≡ mid.switches
    → AreInTime (call_moment call) mid.switches more → after_calls more mid.switches ≡ t.switches
    → AreInTime moment s.switches (call ∷ more) × (after_calls (call ∷ more) s.switches ≡ t.switches)
called-next moment call more s mid t before in_time one later last = search rules

module _ (plan : PlanView) (valid : IsValid plan) where
  run-called : (stimuli : List (Stimulus × ℕ)) (s : Machine) (trace : List Line) (t : Machine)
      → IsRun plan stimuli s trace t → IsNothingLate s → (moment : ℕ) → moment ≤ s.moment → IsCalled moment stimuli s t
  run-called [] s trace t (none, is) on_time moment before = search rules
  run-called ((SwitchChange at n level, k) ∷ more) s trace t (empty, allowed, (mid, rest, steps, run, lines)) on_time
      moment before =
      let here = moment-after plan (SwitchChange at n level) s k mid steps in
      let later = run-called more mid rest t run
      (not_late-after plan valid (SwitchChange at n level) s k mid allowed steps) at (omega (arith, here)) in
      let there : after_call (calls.Change n level at) s.switches ≡ mid.switches =
      sym (switches-steps plan k (begin plan (SwitchChange at n level) s) mid steps
      ∙ switches-begin plan (SwitchChange at n level) s) in
      let past = allowed.0.forward in
      let both = called-next moment (calls.Change n level at) (switch_calls more) s mid t (omega (arith, past, before))
      (λ other due is. allowed.0.quiet (switch other) due is) there later.in_time later.after in
      record { in_time = both.0; after = both.1; last = later.last }
  run-called ((Alarm at (switch n), k) ∷ more) s trace t (empty, allowed, (mid, rest, steps, run, lines)) on_time moment
      before =
      let here = moment-after plan (Alarm at (switch n)) s k mid steps in
      let later = run-called more mid rest t run (not_late-after plan valid (Alarm at (switch n)) s k mid allowed steps)
      at (omega (arith, here)) in
      let next = next_alarm-due s at n allowed.0 in
      let there : after_call (Fire at) s.switches ≡ mid.switches = fire-accepts n s.switches at next
      ∙ sym (switches-steps plan k (begin plan (Alarm at (switch n)) s) mid steps
      ∙ switches-begin plan (Alarm at (switch n)) s) in
      let past = forward plan valid (Alarm at (switch n)) s on_time allowed in
      let both = called-next moment (Fire at) (switch_calls more) s mid t (omega (arith, past, before)) (n, next) there
      later.in_time later.after in
      record { in_time = both.0; after = both.1; last = later.last }
  run-called ((Alarm at (device r), k) ∷ more) s trace t (empty, allowed, (mid, rest, steps, run, lines)) on_time moment
      before =
      let here = moment-after plan (Alarm at (device r)) s k mid steps in
      let past = forward plan valid (Alarm at (device r)) s on_time allowed in
      let later = run-called more mid rest t run (not_late-after plan valid (Alarm at (device r)) s k mid allowed steps)
      moment (omega (arith, here, past, before)) in
      let there : s.switches ≡ mid.switches =
      sym (switches-steps plan k (begin plan (Alarm at (device r)) s) mid steps
      ∙ switches-begin plan (Alarm at (device r)) s) in
      record {
        in_time = subst (λ (v : SwitchesView). AreInTime moment v (switch_calls more)) (sym there) later.in_time;
        after = ap (after_calls (switch_calls more)) there ∙ later.after;
        last = later.last;
      }
  run-called ((Wait at, k) ∷ more) s trace t (empty, allowed, (mid, rest, steps, run, lines)) on_time moment before =
      let here = moment-after plan (Wait at) s k mid steps in
      let past = allowed.forward in
      let later = run-called more mid rest t run (not_late-after plan valid (Wait at) s k mid allowed steps) moment
      (omega (arith, here, past, before)) in
      let there : s.switches ≡ mid.switches = sym (switches-steps plan k (begin plan (Wait at) s) mid steps) in
      record {
        in_time = subst (λ (v : SwitchesView). AreInTime moment v (switch_calls more)) (sym there) later.in_time;
        after = ap (after_calls (switch_calls more)) there ∙ later.after;
        last = later.last;
      }

  -- if nothing is due, each switch has the accepted level of its raw changes
  pub levels-run : LevelsFollowRawChanges plan
  levels-run stimuli trace s run at after quiet n within =
      let called = run-called stimuli (initial plan) trace s run (not_late-initial plan valid) 0 (omega arith) in
      let there : after_calls (switch_calls stimuli) (all_idle plan) ≡ s.switches = called.after in
      let last = called.last in
      let still : IsNoSwitchDueBy (after_calls (switch_calls stimuli) (all_idle plan)) at =
      subst (λ (v : SwitchesView). IsNoSwitchDueBy v at) (sym there) (λ other due is. quiet (switch other) due is) in
      ap (λ (v : SwitchesView). active_at v n) (sym there)
      ∙ levels_are_accepted plan (switch_calls stimuli) at called.in_time (omega (arith, last, after)) still n
      within
