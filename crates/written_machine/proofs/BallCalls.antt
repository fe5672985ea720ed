-- A whole call of a ball device books what it answers, and leaves the ledger in step with the devices.
use Rattle.std.proofs.Common.{rules, ◌≡◌, ℕ, ◌+◌, ◌<◌, ◌≤◌, ◌==◌, ◌&&◌, if◌then◌else◌, Bool, true, false, Option, Some}
use Rattle.std.proofs.Common.{None, List, [], ◌∷◌, length, refl, sym, ap, ap₂, ◌∙◌, subst, arith}
use Rattle.std.specs.{Prelude.unwrap_or, List.{All, count_by}}
use Rattle.std.proofs.lemmas.{Bool.{eq-eqb, ne_eqb}, List.Elements.{All-filter, filter_passes}}
use Rattle.plan_tables.specs.declared.entries.{GameEvent.TheVariants.BallDrain, Owner.Owner}
use Rattle.plan_tables.specs.PlanView.{PlanView, feeders_of, feeds, game_event, is_target, list_of_row, row_at}
use Rattle.plan_tables.specs.PlanView.{row_numbers, target_in, target_of, first_trough, is_trough}
use Rattle.plan_tables.specs.Valid.{IsTargetThere, IsValid}
use Rattle.plan_tables.specs.declared.devices.Act.TheVariants as acts
use Rattle.plan_tables.specs.declared.devices.{BallSettings.BallSettings, RowId.RowId, Settings.Settings}
use Rattle.plan_tables.specs.declared.devices.BallTarget.{BallTarget, TheVariants.{Playfield, Device}}
use Rattle.plan_tables.specs.declared.devices.Settings.TheVariants as kinds
use Rattle.plan_tables.specs.declared.entries.Action.{Action, TheVariants.{Enter, Leave, Lose, Arrive}}
use Rattle.ball_devices.specs.declared.booking.{Booking.TheVariants.Entered, Origin.{Origin, TheVariants.Awaited}}
use Rattle.ball_devices.specs.{Ledger.{counted_in, transit_to, origin_of}, Bookings.{is_start_for, is_end_for, one}}
use Rattle.ball_devices.specs.Bookings.{LedgerCall, MayBook, booking_of, is_new_entry, is_entry_into, is_exit_from}
use Rattle.ball_devices.specs.Bookings as ledger_calls
use Rattle.ball_devices.proofs.{Ledgers.{origin-says, call-is}, Booked.call-told}
use Rattle.cascade_rank.proofs.Rows.{rows-within}
use Rattle.device_objects.specs.declared.{device.Call.Call, state.{BallState.BallState, DeviceState.DeviceState}}
use Rattle.device_objects.specs.declared.device.Call.TheVariants as calls
use Rattle.device_objects.specs.declared.state.DeviceState.TheVariants as states
use Rattle.device_objects.specs.{BallDevice.{is_away, ball_step, HasBallShape}, DeviceStep.device_step}
use Rattle.device_objects.specs.BallDevice as lists
use Rattle.device_objects.proofs.BallShapes.{ball_step-shape}
use Rattle.player_game.specs.GameStep.{is_ball_on}
use Rattle.plan_tables.specs.BallRows.{actions_in, BooksBalls, BooksRightly, BookingsAreRight, IsPlain}
use Rattle.plan_tables.specs.declared.devices.Telling.{Telling, TheVariants.{Arrived, Wanted}}
use Rattle.written_machine.specs.Machine.{Machine, post, set_device, book, drain_if, after_entry, do_action_by}
use Rattle.written_machine.specs.Machine.{do_list_by, world_of, device_at, do_answer_by, call_device_by, is_device_away}
use Rattle.written_machine.specs.Machine.{first_away, tell_nobody, tell_device, tell_first, call_device}
use Rattle.written_machine.proofs.BallSteps.{balls_in, IsQuiet, AreQuiet, Answer, nothing, enters, leaves, loses}
use Rattle.written_machine.proofs.BallSteps.{arrives, IsAnswer, IsUsual, step-answer, confirm-answer, step-confirmed}
use Rattle.written_machine.proofs.{BallSteps.requested-answer, Feeding.first_trough-is}
use Rattle.written_machine.proofs.BallFeeders.{Found, find-found, row-counts}
use Rattle.written_machine.proofs.BallPlays.{IsOther, nothing-other, then-other, post-other, list-other, Plays, still}
use Rattle.written_machine.proofs.BallPlays.{ball, arrival, both, IsNoCall, request}
use Rattle.written_machine.proofs.BallCalm.{balls_at, no_lag, lag_at, limit, IsCalm, feeder, one-no, one-yes}
use Rattle.written_machine.proofs.BallCalm.{surely_booked, other-calm, room, turned-calm}

pub no_call-usual : (call : Call) → IsNoCall call → IsUsual call
no_call-usual call none = absurd none

module _ (plan : PlanView) (valid : IsValid plan) (right : BookingsAreRight plan) where
  -- ---- a ball device, and what it is called

  module _ (r : RowId) (d : BallSettings) (within : r.0 < length plan.rows)
      (is : (row_at plan r).settings ≡ kinds.BallDevice d) where
    ball_row : BooksBalls r (actions_in plan r)
    ball_row = subst (λ (settings : Settings). BooksRightly r settings (actions_in plan r)) is (right.rows r within)

    target_is : target_of plan r ≡ d.target
    target_is = ap (λ (settings : Settings). unwrap_or (target_in settings) Playfield) is

    feeds_its : feeds (target_of plan r) (row_at plan r).settings ≡ true
    feeds_its = search rules

    -- a list of its own that has just one action
    one_action : (P : Machine → Type 0) (tell : Telling → Machine → Machine) (k : ℕ) (a : Action) (u : Machine)
        → actions_in plan r k ≡ a ∷ []
        → P (do_action_by plan tell (row_at plan r).owner a u)
        → P (do_list_by plan tell (row_at plan r).owner (list_of_row plan r k) u)
    one_action P tell k a u only done = search rules

    -- its lists that book nothing, and tell no other device anything
    quiet_list : (k : ℕ) → IsQuiet k → All IsPlain (actions_in plan r k)
    quiet_list k x1 = search rules

    quiet-other : (tell : Telling → Machine → Machine) (ks : List ℕ) (u : Machine) → AreQuiet ks
        → IsOther plan u (do_answer_by plan tell r ks u)
    quiet-other tell [] u quiet = nothing-other plan u
    quiet-other tell (k ∷ ks) u quiet =
        then-other plan (list-other plan tell (row_at plan r).owner (list_of_row plan r k) (quiet_list k quiet.0) u)
        (quiet-other tell ks (do_list_by plan tell (row_at plan r).owner (list_of_row plan r k) u) quiet.1)

    -- ---- what is answered

    module _ (s : Machine) (h : IsCalm plan no_lag s) (b : BallState) (was : device_at s r ≡ states.BallDevice b) where
      held_here : counted_in s.ledger r ≡ balls_in b
      held_here = h.holding r d within is ∙ ap balls_at was

      row_counted : r.0 < length s.ledger.counted
      row_counted = let rows = h.rows in omega (arith, within, rows)

      there_in : (target : BallTarget) → IsTargetThere (length plan.rows) target
          → IsTargetThere (length s.ledger.counted) target
      there_in target there = subst (λ (k : ℕ). IsTargetThere k target) (sym h.rows) there

      target_there : IsTargetThere (length plan.rows) (target_of plan r)
      target_there = (valid.entries.rows r within).target

      -- the device goes on to its next state, and the ledger books
      booked-calm : (t : BallState) → HasBallShape d t → (c : LedgerCall) → MayBook c s.ledger
          → s.ledger.known + one (is_new_entry (booking_of c s.ledger)) ≤ limit
          → balls_in t + one (is_exit_from r (booking_of c s.ledger))
          ≡ balls_in b + one (is_entry_into r (booking_of c s.ledger))
          → ((e : RowId) → (e.0 ≡ r.0 → ⊥)
          → (is_exit_from e (booking_of c s.ledger) ≡ false) × (is_entry_into e (booking_of c s.ledger) ≡ false))
          → (later : BallTarget → ℕ)
          → ((target : BallTarget) → one (is_start_for target (booking_of c s.ledger)) + later target + one
          (is_target target d.target && is_away b.eject)
          ≡ one (is_end_for target (booking_of c s.ledger)) + one (is_target target d.target && is_away t.eject))
          → (owner : Owner) → IsCalm plan later (book owner c (set_device r (states.BallDevice t) s))
      booked-calm t shape c may fits balls about later moves owner =
          let tells = call-told s.ledger h.ledger.rows c may in
          surely_booked (IsCalm plan later) owner c (set_device r (states.BallDevice t) s) may
          (turned-calm plan s r d within is b t was shape _ refl refl h tells.rows (call-is c s.ledger h.ledger may)
          (let known = tells.known in omega (arith, known, fits))
          (let here = tells.counted r row_counted in omega (arith, here, balls, held_here))
          (λ e inside other.
          let sides = about e other in
          let exit : one (is_exit_from e (booking_of c s.ledger)) ≡ 0 = ap one sides.0 in
          let entry : one (is_entry_into e (booking_of c s.ledger)) ≡ 0 = ap one sides.1 in
          let rows = h.rows in
          let there = tells.counted e (omega (arith, inside, rows)) in
          omega (arith, exit, entry, there))
          (λ target there.
          let transit = tells.transit target (there_in target there) in
          omega (arith, transit, moves target)))

      other_row : (e : RowId) → (e.0 ≡ r.0 → ⊥) → (e.0 == r.0) ≡ false
      other_row e other = ne_eqb e.0 r.0 other

      this_row : one (r.0 == r.0) ≡ 1
      this_row = ap one (eq-eqb r.0 r.0 refl)

      -- if the ledger books nothing
      nothing-calm : (t : BallState) → HasBallShape d t → balls_in t ≡ balls_in b → is_away t.eject ≡ is_away b.eject
          → IsCalm plan no_lag (set_device r (states.BallDevice t) s)
      nothing-calm t shape balls away =
          turned-calm plan s r d within is b t was shape (set_device r (states.BallDevice t) s) refl refl h refl
          h.ledger h.most
          (held_here ∙ sym balls) (λ e inside other. refl)
          (λ target there. ap (λ (x : Bool). transit_to s.ledger target + 0 + one (is_target target d.target && x))
          (sym away))

      -- a ball has entered: it is booked, and if it was on its way here, that is confirmed
      entered-calm : (t : BallState) → HasBallShape d t → balls_in t ≡ balls_in b + 1
          → is_away t.eject ≡ is_away b.eject → (owner : Owner)
          → IsCalm plan (λ target. one (is_end_for target (Entered r (origin_of r s.ledger))))
          (book owner (ledger_calls.Enter r) (set_device r (states.BallDevice t) s))
      entered-calm t shape balls away owner =
          let most = h.most in
          booked-calm t shape (ledger_calls.Enter r) (row_counted, omega (arith, most))
          (room plan valid s h (origin_of r s.ledger) r (origin-says r s.ledger))
          (omega (arith, balls, this_row)) (λ e other. (refl, other_row e other))
          (λ target. one (is_end_for target (Entered r (origin_of r s.ledger))))
          (λ target.
          let same : one (is_target target d.target && is_away t.eject)
          ≡ one (is_target target d.target && is_away b.eject) =
          ap (λ (x : Bool). one (is_target target d.target && x)) away in
          omega (arith, same)) owner

      left-calm : (t : BallState) → HasBallShape d t → balls_in t + 1 ≡ balls_in b → is_away b.eject ≡ false
          → is_away t.eject ≡ true → (owner : Owner)
          → IsCalm plan no_lag (book owner (ledger_calls.Leave r (target_of plan r))
          (set_device r (states.BallDevice t) s))
      left-calm t shape balls before after owner =
          booked-calm t shape (ledger_calls.Leave r (target_of plan r))
          (row_counted, there_in (target_of plan r) target_there, omega (arith, held_here, balls))
          (let most = h.most in omega (arith, most)) (omega (arith, balls, this_row))
          (λ e other. (other_row e other, refl)) no_lag
          (λ target.
          let start : one (is_target target (target_of plan r)) ≡ one (is_target target d.target) =
          ap (λ (x : BallTarget). one (is_target target x)) target_is in
          omega (
            arith,
            start,
            one-no (is_target target d.target) (is_away b.eject) before,
            one-yes (is_target target d.target) (is_away t.eject) after,
          )) owner

      lost-calm : (t : BallState) → HasBallShape d t → balls_in t + 1 ≡ balls_in b → is_away t.eject ≡ is_away b.eject
          → (owner : Owner)
          → IsCalm plan no_lag (book owner (ledger_calls.Lose r) (set_device r (states.BallDevice t) s))
      lost-calm t shape balls away owner =
          booked-calm t shape (ledger_calls.Lose r) (row_counted, omega (arith, held_here, balls))
          (let most = h.most in omega (arith, most)) (omega (arith, balls, this_row))
          (λ e other. (other_row e other, refl)) no_lag
          (λ target.
          let same : one (is_target target d.target && is_away t.eject)
          ≡ one (is_target target d.target && is_away b.eject) =
          ap (λ (x : Bool). one (is_target target d.target && x)) away in
          omega (arith, same)) owner

      -- it is Away to its target itself, so that a ball is on its way there
      one_on_way : is_away b.eject ≡ true → 0 < transit_to s.ledger (target_of plan r)
      one_on_way away =
          let some = row-counts (λ q. feeds (target_of plan r) (row_at plan q).settings)
          (λ q. is_device_away (device_at s q)) r.0 (length plan.rows) within
          feeds_its (ap is_device_away was ∙ away) in
          omega (arith, some, h.away (target_of plan r) target_there)

      arrived-calm : (t : BallState) → HasBallShape d t → balls_in t ≡ balls_in b → is_away b.eject ≡ true
          → is_away t.eject ≡ false → (owner : Owner)
          → IsCalm plan no_lag (book owner (ledger_calls.Arrive (target_of plan r))
          (set_device r (states.BallDevice t) s))
      arrived-calm t shape balls before after owner =
          booked-calm t shape (ledger_calls.Arrive (target_of plan r))
          (there_in (target_of plan r) target_there, one_on_way before)
          (let most = h.most in omega (arith, most)) (omega (arith, balls)) (λ e other. (refl, refl)) no_lag
          (λ target.
          let end : one (is_target target (target_of plan r)) ≡ one (is_target target d.target) =
          ap (λ (x : BallTarget). one (is_target target x)) target_is in
          omega (
            arith,
            end,
            one-yes (is_target target d.target) (is_away b.eject) before,
            one-no (is_target target d.target) (is_away t.eject) after,
          )) owner

      -- ---- the whole call

      drain-calm : (owner : Owner) (drain : Bool) (v : Machine) → IsCalm plan no_lag v
          → IsCalm plan no_lag (drain_if plan owner drain v)
      drain-calm owner drain v calm = by (drain && is_ball_on v.game.phase)
        where
          by : (b : Bool) → IsCalm plan no_lag (if b then post owner (game_event plan BallDrain) v else v)
          by true = other-calm plan (post-other plan owner (game_event plan BallDrain) v) calm
          by false = calm

      module _ (enter : Type 0) (tell : Telling → Machine → Machine)
          (tells : enter → (v : Machine) → IsCalm plan (lag_at (Device r)) v
          → IsCalm plan no_lag (tell (Arrived (Device r)) v)) where
        origin-calm : enter → (owner : Owner) (drain : Bool) (o : Origin) (v : Machine)
            → IsCalm plan (λ target. one (is_end_for target (Entered r o))) v
            → IsCalm plan no_lag (after_entry plan tell owner r drain o v)
        origin-calm may owner drain Awaited v calm = tells may v calm
        origin-calm may owner drain _ v calm = drain-calm owner drain v calm

        answer-calm : {t : BallState} {ks : List ℕ} → HasBallShape d t → Answer enter b t ks
            → IsCalm plan no_lag (do_answer_by plan tell r ks (set_device r (states.BallDevice t) s))
        answer-calm shape (nothing t ks balls away quiet) =
            other-calm plan (quiet-other tell ks (set_device r (states.BallDevice t) s) quiet)
            (nothing-calm t shape balls away)
        answer-calm shape (enters may t rest balls away quiet) =
            let owner = (row_at plan r).owner in
            let u = set_device r (states.BallDevice t) s in
            let event = ball_row.event in
            let drain = ball_row.drain in
            let in_it = book owner (ledger_calls.Enter r) u in
            other-calm plan (quiet-other tell rest (do_list_by plan tell owner (list_of_row plan r lists.entry_list) u)
            quiet)
            (one_action (IsCalm plan no_lag) tell lists.entry_list (Enter r event drain) u ball_row.entry
            (origin-calm may owner drain (origin_of r s.ledger) (post owner event in_it)
            (other-calm plan (post-other plan owner event in_it) (entered-calm t shape balls away owner))))
        answer-calm shape (leaves t balls before after) =
            one_action (IsCalm plan no_lag) tell lists.exit_list (Leave r) (set_device r (states.BallDevice t) s)
            ball_row.exit
            (left-calm t shape balls before after (row_at plan r).owner)
        answer-calm shape (loses t balls away) =
            one_action (IsCalm plan no_lag) tell lists.loss_list (Lose r) (set_device r (states.BallDevice t) s)
            ball_row.loss
            (lost-calm t shape balls away (row_at plan r).owner)
        answer-calm shape (arrives t rest balls before after quiet) =
            let u = set_device r (states.BallDevice t) s in
            other-calm plan (quiet-other tell rest
            (do_list_by plan tell (row_at plan r).owner (list_of_row plan r lists.arrival_list) u) quiet)
            (one_action (IsCalm plan no_lag) tell lists.arrival_list (Arrive r) u ball_row.arrival
            (arrived-calm t shape balls before after (row_at plan r).owner))

        answered-calm : (call : Call) → HasBallShape d b → IsAnswer enter b (ball_step d call s.moment b)
            → IsCalm plan no_lag (call_device_by plan tell call r s)
        answered-calm call shape answer =
            subst (λ (a : DeviceState × List ℕ). IsCalm plan no_lag (do_answer_by plan tell r a.1 (set_device r a.0 s)))
            (sym (ap₂ (λ (x : Settings) (y : DeviceState). device_step x call s.moment (world_of s) y) is was))
            (answer-calm (ball_step-shape d call s.moment b shape) answer)

    -- ---- a device that is Away to another is told that its ball has arrived there

    module _ (to : RowId) (s : Machine) (h : IsCalm plan (lag_at (Device to)) s) (b : BallState)
        (was : device_at s r ≡ states.BallDevice b)
        (shape : HasBallShape d b) (away : is_away b.eject ≡ true) (target : d.target ≡ Device to) where
      told-calm : IsCalm plan no_lag (call_device_by plan tell_nobody (calls.Act acts.Confirm) r s)
      told-calm =
          let a = ball_step d (calls.Act acts.Confirm) s.moment b in
          let done = step-confirmed d s.moment b to away target in
          let balls : balls_in a.0 ≡ balls_in b = ap (λ (bs : _). count_by (λ x. x.counted) bs) done.switches in
          let u = set_device r (states.BallDevice a.0) s in
          subst (λ (x : DeviceState × List ℕ). IsCalm plan no_lag
          (do_answer_by plan tell_nobody r x.1 (set_device r x.0 s)))
          (sym (ap₂ (λ (x : Settings) (y : DeviceState). device_step x (calls.Act acts.Confirm) s.moment (world_of s) y)
          is was))
          (other-calm plan (quiet-other tell_nobody a.1 u done.quiet)
          (turned-calm plan s r d within is b a.0 was (ball_step-shape d (calls.Act acts.Confirm) s.moment b shape) u
          refl refl h refl h.ledger h.most
          (h.holding r d within is ∙ (ap balls_at was ∙ sym balls)) (λ e inside other. refl)
          (λ x there.
          let same : one (is_target x d.target) ≡ one (is_target x (Device to)) =
          ap (λ (y : BallTarget). one (is_target x y)) target in
          omega (
            arith,
            same,
            one-yes (is_target x d.target) (is_away b.eject) away,
            one-no (is_target x d.target) (is_away a.0.eject) done.away,
          ))))

  -- ---- the first device Away to a target

  -- what is known of a row that is found
  record IsFeedingRow (target : BallTarget) (q : RowId) : Type 0 where
    within : q.0 < length plan.rows
    feeds_it : feeds target (row_at plan q).settings ≡ true

  feeding_rows : (target : BallTarget) → All (IsFeedingRow target) (feeders_of plan target)
  feeding_rows target =
      let f : RowId → Bool = λ q. feeds target (row_at plan q).settings in
      let inside = All-filter f (λ q. q.0 < length plan.rows) (row_numbers plan) (rows-within plan) in
      let passes = filter_passes f (row_numbers plan) in
      (λ k e there. record { within = inside k e there; feeds_it = passes k e there })

  entry-calm : (to : RowId) → to.0 < length plan.rows → (s : Machine) → IsCalm plan (lag_at (Device to)) s
      → IsCalm plan no_lag (tell_first plan (Arrived (Device to)) s)
  entry-calm to inside s h = by (first_away plan (Device to) s)
      (find-found p (IsFeedingRow (Device to)) (feeders_of plan (Device to)) (feeding_rows (Device to))
      (first_away plan (Device to) s) refl)
    where
      p : RowId → Bool
      p q = is_device_away (device_at s q)

      by : (o : Option RowId) → Found p (IsFeedingRow (Device to)) (feeders_of plan (Device to)) o
          → IsCalm plan no_lag (tell_device plan (Arrived (Device to)) o s)
      by None none = search (rules, eq-eqb)
      by (Some q) (away, row) =
          let of = feeder (Device to) (row_at plan q).settings row.feeds_it in
          let state = h.shapes q of.d row.within of.is in
          told-calm q of.d row.within of.is to s h state.ball state.is state.shape
          (sym (ap is_device_away state.is) ∙ away) of.to

  pub arrival-calm : (s : Machine) → IsCalm plan no_lag s → IsCalm plan no_lag (tell_first plan (Arrived Playfield) s)
  arrival-calm s h = by (first_away plan Playfield s)
      (find-found p (IsFeedingRow Playfield) (feeders_of plan Playfield) (feeding_rows Playfield)
      (first_away plan Playfield s) refl)
    where
      p : RowId → Bool
      p q = is_device_away (device_at s q)

      by : (o : Option RowId) → Found p (IsFeedingRow Playfield) (feeders_of plan Playfield) o
          → IsCalm plan no_lag (tell_device plan (Arrived Playfield) o s)
      by None none = h
      by (Some q) (away, row) =
          let of = feeder Playfield (row_at plan q).settings row.feeds_it in
          let state = h.shapes q of.d row.within of.is in
          answered-calm q of.d row.within of.is s h state.ball state.is ⊥ tell_nobody (λ none. absurd none)
          (calls.Act acts.Confirm) state.shape
          (confirm-answer of.d ⊥ s.moment state.ball of.to)

  -- a trough is a ball device
  trough-ball : (settings : Settings) → is_trough settings ≡ true → (d : BallSettings) × (settings ≡ kinds.BallDevice d)
  trough-ball settings is = search rules

  -- the first trough is asked for balls
  request-calm : (n : ℕ) (s : Machine) → IsCalm plan no_lag s → IsCalm plan no_lag (tell_first plan (Wanted n) s)
  request-calm n s h = by (first_trough plan) refl
    where
      by : (o : Option RowId) → first_trough plan ≡ o → IsCalm plan no_lag (tell_device plan (Wanted n) o s)
      by None none = h
      by (Some q) is =
          let first = first_trough-is plan q is in
          let of = trough-ball (row_at plan q).settings first.trough in
          let state = h.shapes q of.0 first.there of.1 in
          answered-calm q of.0 first.there of.1 s h state.ball state.is ⊥ tell_nobody (λ none. absurd none)
          (calls.Act (acts.Request n)) state.shape
          (requested-answer of.0 ⊥ n s.moment state.ball)

  pub call-calm : (call : Call) (r : RowId) (d : BallSettings) → r.0 < length plan.rows
      → (row_at plan r).settings ≡ kinds.BallDevice d
      → IsUsual call → (s : Machine) → IsCalm plan no_lag s → IsCalm plan no_lag (call_device plan call r s)
  call-calm call r d within is usual s h =
      let state = h.shapes r d within is in
      answered-calm r d within is s h state.ball state.is (Unit {0}) (tell_first plan)
      (λ may v calm. entry-calm r within v calm) call state.shape
      (step-answer d (Unit {0}) tt call s.moment state.ball usual)

  -- ---- all together

  pub plays-calm : {may : Call → Type 0} → ((call : Call) → may call → IsUsual call) → {s t : Machine}
      → Plays plan may s t
      → IsCalm plan no_lag s → IsCalm plan no_lag t
  plays-calm usual (still other) h = other-calm plan other h
  plays-calm usual (ball call r d s within is may) h = call-calm call r d within is (usual call may) s h
  plays-calm usual (arrival s) h = arrival-calm s h
  plays-calm usual (request n s) h = request-calm n s h
  plays-calm usual (both a b) h = plays-calm usual b (plays-calm usual a h)
