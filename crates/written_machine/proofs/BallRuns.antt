-- In every run the ledger is in step with the devices.
use Rattle.std.proofs.Common.{rules, ◌≡◌, ℕ, ◌<◌, cond, Bool, false, Option, Some, List, [], ◌∷◌, length, refl, sym, ap}
use Rattle.std.proofs.{Common.{◌∙◌, subst, arith}, lemmas.{Bool.cases_lt, Option.none-some, List.Sums.sum_by-cons}}
use Rattle.std.specs.List.{count_by}
use Rattle.std.proofs.lemmas.List.{get_or_past, length-map, length-replicate, get_or-map, get_or-replicate}
use Rattle.plan_tables.specs.PlanView.{PlanView, act_of_listener, feeders_of, feeds, row_at, row_numbers}
use Rattle.plan_tables.specs.{Valid.IsValid, declared.entries.Listener.Listener, BallRows.BookingsAreRight}
use Rattle.plan_tables.specs.declared.devices.{BallSettings.BallSettings, BallTarget.BallTarget, RowId.RowId}
use Rattle.plan_tables.specs.declared.devices.Settings.TheVariants as kinds
use Rattle.plan_tables.specs.declared.entries.Owner.TheVariants as owners
use Rattle.ball_devices.{specs.Ledger.{no_balls, counted_in, transit_to}, proofs.Ledgers.new-is}
use Rattle.device_objects.specs.declared.device.Call.TheVariants as calls
use Rattle.device_objects.specs.BallDevice as balls
use Rattle.device_objects.{specs.DeviceStep.{due_of, first_state}, proofs.BallShapes.first_ball-shape}
use Rattle.switch_core.specs.declared.change.Change.{Change}
use Rattle.written_machine.specs.declared.line.Happening.TheVariants as lines
use Rattle.written_machine.specs.{EventStep.EventStep, Devices.ActsAreOwn, Run.InEveryRun}
use Rattle.written_machine.specs.Machine.{Machine, initial, write, device_at, is_device_away, tell_listeners}
use Rattle.written_machine.specs.Machine.{do_accepted, do_if_accepted}
use Rattle.written_machine.specs.Run.{switch, device, Stimulus, SwitchChange, Alarm, Wait, IsAllowed, arrive, begin}
use Rattle.written_machine.proofs.{Keeps.run-keeps, BallSteps.IsUsual, BallFeeders.filter-same}
use Rattle.written_machine.proofs.BallPlays.{call-plays, listeners-play, accepted-plays, event-plays, IsNoCall}
use Rattle.written_machine.proofs.{BallCalm.{balls_at, no_lag, IsCalm, feeder}, BallCalls.{plays-calm, no_call-usual}}

pub usual-listener : (active : Bool) (l : Listener) → IsUsual (calls.Act (act_of_listener active l))
usual-listener active l = search rules

count-none : {X : Type 0} (xs : List X) → count_by (λ (x : X). false) xs ≡ 0
count-none [] = refl
count-none (x ∷ xs) = omega (arith, sum_by-cons (λ y. cond false 1 0) x xs, count-none xs)

module _ (plan : PlanView) where
  -- ---- at first

  first-device : (r : RowId) → device_at (initial plan) r ≡ first_state (row_at plan r).settings
  first-device r = search (rules, cases_lt, get_or-map, length-map, get_or_past)

  pub first-ball : (r : RowId) (d : BallSettings) → (row_at plan r).settings ≡ kinds.BallDevice d
      → device_at (initial plan) r ≡ first_state (kinds.BallDevice d)
  first-ball r d is = first-device r ∙ ap first_state is

  none_counted : (k : ℕ) → counted_in (no_balls plan) (record { 0 = k }) ≡ 0
  none_counted k = search (rules, cases_lt, get_or-replicate, get_or_past, length-replicate)

  none_on_way : (target : BallTarget) → transit_to (no_balls plan) target ≡ 0
  none_on_way target = search (rules, none_counted)

  pub calm-initial : IsCalm plan no_lag (initial plan)
  calm-initial = record {
    kept = refl;
    count = length-map plan.rows (λ row. first_state row.settings);
    shapes = λ r d within is. record { ball = balls.first_state; is = first-ball r d is; shape = first_ball-shape d };
    rows = length-replicate (length plan.rows) 0;
    ledger = new-is plan;
    most = omega arith;
    few = λ r within. omega (arith, none_counted r.0);
    holding = λ r d within is. none_counted r.0 ∙ sym (ap balls_at (first-ball r d is));
    away = λ target there.
        let none = none_on_way target in
        let same = filter-same (λ (r : RowId). is_device_away (device_at (initial plan) r)) (λ r. false)
        (λ r. feeds target (row_at plan r).settings) (row_numbers plan)
        (λ r feeding. let of = feeder target (row_at plan r).settings feeding
        in ap is_device_away (first-ball r of.d of.is)) in
        omega (arith, none, same, count-none (feeders_of plan target));
  }

  module _ (valid : IsValid plan) (own : ActsAreOwn plan) (right : BookingsAreRight plan) where
    -- ---- event steps

    pub step-calm : (s t : Machine) → EventStep plan s t → IsCalm plan no_lag s → IsCalm plan no_lag t
    step-calm s t st h =
        subst (IsCalm plan no_lag) (sym st.new_is)
        (plays-calm plan valid right no_call-usual
        (event-plays plan valid.entries own right IsNoCall st.first st.rest st.order s st.in_order) h)

    -- ---- stimuli

    same-calm : (s t : Machine) → t.ledger ≡ s.ledger → t.bookings_left_out ≡ s.bookings_left_out
        → t.devices ≡ s.devices → IsCalm plan no_lag s → IsCalm plan no_lag t
    same-calm s t ledger kept devices h = search rules

    accepted-calm : (a : Change) (s : Machine) → IsCalm plan no_lag s → IsCalm plan no_lag (do_accepted plan a s)
    accepted-calm a s h =
        let written = write owners.Machine (lines.Switch a.switch a.active) s in
        let heard = plays-calm plan valid right {may = IsUsual} (λ call may. may)
        (listeners-play plan valid.entries own right IsUsual a written (usual-listener a.active))
        (same-calm s written refl refl refl h) in
        plays-calm plan valid right no_call-usual
        (accepted-plays plan valid.entries own right IsNoCall a (tell_listeners plan a written)) heard

    if_accepted-calm : (o : Option Change) (s : Machine) → IsCalm plan no_lag s
        → IsCalm plan no_lag (do_if_accepted plan o s)
    if_accepted-calm o s h = search (rules, accepted-calm)

    -- a device that is due is one of the plan
    pub due-within : (s : Machine) (r : RowId) (due : ℕ) → IsCalm plan no_lag s → due_of (device_at s r) ≡ Some due
        → r.0 < length plan.rows
    due-within s r due h is = search (rules, cases_lt, none-some, get_or_past)

    pub begin-calm : (stimulus : Stimulus) (s : Machine) → IsAllowed plan s stimulus → IsCalm plan no_lag s
        → IsCalm plan no_lag (begin plan stimulus s)
    begin-calm (SwitchChange at n level) s allowed h = search (rules, if_accepted-calm, same-calm)
    begin-calm (Alarm at (switch n)) s allowed h = search (rules, accepted-calm, same-calm)
    begin-calm (Alarm at (device r)) s allowed h =
        plays-calm plan valid right {may = IsUsual} (λ call may. may)
        (call-plays plan valid.entries own right IsUsual calls.Fire r (arrive at s) (due-within s r at h allowed.0.due)
        tt)
        (same-calm s (arrive at s) refl refl refl h)
    begin-calm (Wait at) s allowed h = same-calm s (arrive at s) refl refl refl h

    pub calm-run : InEveryRun plan (λ stimuli trace s. IsCalm plan no_lag s)
    calm-run stimuli trace s run =
        (run-keeps plan (λ before. IsCalm plan no_lag) (λ before. step-calm)
        (λ before stimulus u allowed empty h. begin-calm stimulus u allowed h) [] stimuli
        (initial plan) trace s run calm-initial).1
