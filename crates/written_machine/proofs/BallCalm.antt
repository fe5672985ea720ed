-- Between the calls of devices the ledger says how many balls count in each device, and how many devices are Away to
-- each target. A whole call of a ball device leaves it so, and all that it books may be booked.
use Rattle.std.proofs.Common.{rules, ◌≡◌, ℕ, ◌+◌, ◌^◌, ◌<◌, ◌≤◌, ◌&&◌, inl, inr, Bool, true, false, List, length}
use Rattle.std.{proofs.Common.{slice_set, sym, ap, ap₂, ◌∙◌, subst, arith}, specs.List.count_by}
use Rattle.std.proofs.lemmas.{Bool.cases_eq, List.Sums.{sum_by-le, count_by-le-length, length-filter}}
use Rattle.std.proofs.lemmas.List.{length-set, get_or-set_same, get_or-set_other, Elements.All-from_get_or}
use Rattle.plan_tables.specs.PlanView.{PlanView, feeders_of, feeds, is_target, no_row, row_at, row_numbers}
use Rattle.plan_tables.specs.{Valid.{IsTargetThere, IsValid}, declared.entries.Owner.Owner}
use Rattle.plan_tables.specs.declared.devices.{BallSettings.BallSettings, RowId.RowId, Settings.Settings}
use Rattle.plan_tables.specs.declared.devices.BallTarget.{BallTarget, TheVariants.{Playfield, Device}}
use Rattle.plan_tables.specs.declared.devices.Settings.TheVariants as kinds
use Rattle.ball_devices.specs.declared.booking.Origin.{Origin}
use Rattle.ball_devices.specs.Ledger.{Ledger, counted_in, transit_to, all_counted, all_in_transit, IsLedger}
use Rattle.ball_devices.specs.Bookings.{LedgerCall, MayBook, after_call, booking_of, is_new, one, Says}
use Rattle.cascade_rank.proofs.Rows.{length-rows}
use Rattle.device_objects.specs.declared.state.{BallState.BallState, DeviceState.DeviceState}
use Rattle.device_objects.specs.declared.state.DeviceState.TheVariants as states
use Rattle.device_objects.specs.{BallDevice.{is_away, HasBallShape}, DeviceStep.first_state}
use Rattle.written_machine.specs.declared.line.Happening.TheVariants as lines
use Rattle.written_machine.specs.Machine.{Machine, write, set_ledger, counts_of, book, device_state, device_at}
use Rattle.written_machine.{specs.Machine.is_device_away, proofs.BallFeeders.{filter-same, row-changes}}
use Rattle.written_machine.proofs.{BallSteps.balls_in, BallPlays.{IsOther, one_row}}

-- how many balls count in a device
abbrev pub balls_at : DeviceState → ℕ
balls_at (states.BallDevice b) = balls_in b
balls_at _ = 0

-- the state of a ball device
pub record IsBallState (d : BallSettings) (state : DeviceState) : Type 0 where
  pub ball : BallState
  pub is : state ≡ states.BallDevice ball
  pub shape : HasBallShape d ball

-- so many balls more are Away to a target than are on their way to it
abbrev pub no_lag : BallTarget → ℕ
no_lag target = 0

-- one more is Away to this target
abbrev pub lag_at : BallTarget → BallTarget → ℕ
lag_at late target = one (is_target target late)

-- more than can ever be known
abbrev pub limit : ℕ
limit = 2 ^ 31

-- Each ball device has a state, and the ledger a number for each row. So many balls lie in a device as count in it, and
-- so many are on their way to a target as devices are Away to it, up to the lag. No booking was left out.
pub record IsCalm (plan : PlanView) (lag : BallTarget → ℕ) (s : Machine) : Type 0 where
  pub kept : s.bookings_left_out ≡ 0
  pub count : length s.devices ≡ length plan.rows
  pub shapes : (r : RowId) (d : BallSettings) → r.0 < length plan.rows → (row_at plan r).settings ≡ kinds.BallDevice d
      → IsBallState d (device_at s r)
  pub rows : length s.ledger.counted ≡ length plan.rows
  pub ledger : IsLedger s.ledger
  pub most : s.ledger.known ≤ limit
  pub few : (r : RowId) → r.0 < length plan.rows → counted_in s.ledger r ≤ 16
  pub holding : (r : RowId) (d : BallSettings) → r.0 < length plan.rows → (row_at plan r).settings ≡ kinds.BallDevice d
      → counted_in s.ledger r ≡ balls_at (device_at s r)
  pub away : (target : BallTarget) → IsTargetThere (length plan.rows) target
      → transit_to s.ledger target + lag target
      ≡ count_by (λ r. is_device_away (device_at s r)) (feeders_of plan target)

-- ---- targets

-- what feeds a target is a ball device that ejects balls to it
pub record IsFeeder (target : BallTarget) (settings : Settings) : Type 0 where
  pub d : BallSettings
  pub is : settings ≡ kinds.BallDevice d
  pub to : d.target ≡ target

pub feeder : (target : BallTarget) (settings : Settings) → feeds target settings ≡ true → IsFeeder target settings
feeder target settings is = search rules

pub one-no : (x y : Bool) → y ≡ false → one (x && y) ≡ 0
one-no x y not = search rules

pub one-yes : (x y : Bool) → y ≡ true → one (x && y) ≡ one x
one-yes x y is = search rules

pub surely_booked : (P : Machine → Type 0) (owner : Owner) (c : LedgerCall) (s : Machine) → MayBook c s.ledger
    → P (write owner (lines.Balls (booking_of c s.ledger) (counts_of (after_call c s.ledger)))
    (set_ledger (after_call c s.ledger) s))
    → P (book owner c s)
surely_booked P owner c s may h = search rules

module _ (plan : PlanView) where
  -- ---- what is calm stays calm

  pub calm-other : {lag : BallTarget → ℕ} (s t : Machine) → t.ledger ≡ s.ledger
      → t.bookings_left_out ≡ s.bookings_left_out → length t.devices ≡ length s.devices
      → ((r : RowId) (d : BallSettings) → (row_at plan r).settings ≡ kinds.BallDevice d → device_at t r ≡ device_at s r)
      → IsCalm plan lag s → IsCalm plan lag t
  calm-other {lag} s t ledger kept count same h = record {
    kept = kept ∙ h.kept;
    count = count ∙ h.count;
    shapes = λ r d within is. subst (IsBallState d) (sym (same r d is)) (h.shapes r d within is);
    rows = ap (λ (l : Ledger). length l.counted) ledger ∙ h.rows;
    ledger = subst IsLedger (sym ledger) h.ledger;
    most = subst (λ (l : Ledger). l.known ≤ limit) (sym ledger) h.most;
    few = λ r within. subst (λ (l : Ledger). counted_in l r ≤ 16) (sym ledger) (h.few r within);
    holding = λ r d within is.
        ap (λ (l : Ledger). counted_in l r) ledger ∙ (h.holding r d within is ∙ ap balls_at (sym (same r d is)));
    away = λ target there.
        ap (λ (l : Ledger). transit_to l target + lag target) ledger
        ∙ (h.away target there
        ∙ filter-same (λ (r : RowId). is_device_away (device_at s r)) (λ (r : RowId). is_device_away (device_at t r))
        (λ r. feeds target (row_at plan r).settings) (row_numbers plan)
        (λ r feeding.
        let of = feeder target (row_at plan r).settings feeding in
        ap is_device_away (sym (same r of.d of.is))));
  }

  pub other-calm : {lag : BallTarget → ℕ} {s t : Machine} → IsOther plan s t → IsCalm plan lag s → IsCalm plan lag t
  other-calm {lag} {s} {t} other h = calm-other s t other.ledger other.kept other.count other.balls h

  -- ---- bounds

  module _ (valid : IsValid plan) (s : Machine) (h : IsCalm plan no_lag s) where
    counted-few : all_counted s.ledger ≤ 16384
    counted-few =
        let sums = sum_by-le (λ (n : ℕ). n) 16 s.ledger.counted
        (All-from_get_or (λ (n : ℕ). n ≤ 16) s.ledger.counted 0
        (λ i l. h.few (record { 0 = i }) (let rows = h.rows in omega (arith, l, rows)))) in
        let rows = h.rows in
        let most = valid.row_limit in
        omega (arith, sums, rows, most)

    few_on_way : (target : BallTarget) → IsTargetThere (length plan.rows) target → transit_to s.ledger target ≤ 1024
    few_on_way target there = search (rules, length-rows, length-filter, count_by-le-length)

    transit-few : all_in_transit s.ledger ≤ 1049600
    transit-few =
        let rows = h.rows in
        let same = h.ledger.rows in
        let most = valid.row_limit in
        let sums = sum_by-le (λ (n : ℕ). n) 1024 s.ledger.to_devices
        (All-from_get_or (λ (n : ℕ). n ≤ 1024) s.ledger.to_devices 0
        (λ i l. few_on_way (Device (record { 0 = i })) (omega (arith, l, rows, same)))) in
        omega (arith, sums, few_on_way Playfield tt, rows, same, most)

    -- a new ball does not make too many known
    pub room : (o : Origin) (r : RowId) → Says o (transit_to s.ledger (Device r)) s.ledger.playfield
        → s.ledger.known + one (is_new o) ≤ limit
    room o r says = search (rules, counted-few, transit-few)

  -- ---- one device goes on to another state, and the ledger to other numbers

  module _ (s : Machine) (r : RowId) (d : BallSettings) (within : r.0 < length plan.rows)
      (is : (row_at plan r).settings ≡ kinds.BallDevice d)
      (b t : BallState) (was : device_at s r ≡ states.BallDevice b) (shape : HasBallShape d t) where
    abbrev next_devices : List DeviceState
    next_devices = slice_set s.devices r.0 (states.BallDevice t)

    next-same : length s.devices ≡ length plan.rows → device_state next_devices r ≡ states.BallDevice t
    next-same count = get_or-set_same s.devices r.0 (states.BallDevice t) (first_state no_row.settings)
        (omega (arith, within, count))

    next-other : (q : RowId) → (q.0 ≡ r.0 → ⊥) → device_state next_devices q ≡ device_at s q
    next-other q other = get_or-set_other s.devices r.0 q.0 (states.BallDevice t) (first_state no_row.settings) other

    -- either it is this row, or another
    same_row : (q : RowId) → q.0 ≡ r.0 → r ≡ q
    same_row q same = ap (λ (k : ℕ). record { 0 = k }) (sym same)

    pub turned-calm : {lag later : BallTarget → ℕ} (u : Machine) → u.devices ≡ next_devices
        → u.bookings_left_out ≡ s.bookings_left_out → IsCalm plan lag s
        → length u.ledger.counted ≡ length s.ledger.counted → IsLedger u.ledger → u.ledger.known ≤ limit
        → counted_in u.ledger r ≡ balls_in t
        → ((e : RowId) → e.0 < length plan.rows → (e.0 ≡ r.0 → ⊥) → counted_in u.ledger e ≡ counted_in s.ledger e)
        → ((target : BallTarget) → IsTargetThere (length plan.rows) target
        → transit_to u.ledger target + later target + one (is_target target d.target && is_away b.eject)
        ≡ transit_to s.ledger target + lag target + one (is_target target d.target && is_away t.eject))
        → IsCalm plan later u
    turned-calm {lag} {later} u devices kept h rows ledger most here others transit = record {
      kept = kept ∙ h.kept;
      count = ap (λ (ds : List DeviceState). length ds) devices
          ∙ (length-set s.devices r.0 (states.BallDevice t) ∙ h.count);
      shapes = λ q e inside of. subst (λ (ds : List DeviceState). IsBallState e (device_state ds q)) (sym devices)
          (shapes q e inside of);
      rows = rows ∙ h.rows;
      ledger = ledger;
      most = most;
      few = λ q inside. few q inside;
      holding = λ q e inside of. holding q e inside of
          ∙ ap (λ (ds : List DeviceState). balls_at (device_state ds q)) (sym devices);
      away = λ target there. away target there
          ∙ ap (λ (ds : List DeviceState). count_by (λ (q : RowId). is_device_away (device_state ds q))
          (feeders_of plan target)) (sym devices);
    }
      where
        shapes : (q : RowId) (e : BallSettings) → q.0 < length plan.rows → (row_at plan q).settings ≡ kinds.BallDevice e
            → IsBallState e (device_state next_devices q)
        shapes q e inside of =
            elim (cases_eq q.0 r.0) [
              | inl same ↦
                  let settings : kinds.BallDevice d ≡ kinds.BallDevice e = sym is ∙ (sym (one_row plan q r same) ∙ of)
                  in
                  let one_kind : d ≡ e = cc in
                  record {
                    ball = t;
                    is = ap (λ (k : RowId). device_state next_devices k) (sym (same_row q same)) ∙ next-same h.count;
                    shape = subst (λ (x : BallSettings). HasBallShape x t) one_kind shape;
                  }
              | inr other ↦ subst (IsBallState e) (sym (next-other q other)) (h.shapes q e inside of)
            ]

        balls_here : counted_in u.ledger r ≡ balls_at (device_state next_devices r)
        balls_here = here ∙ ap balls_at (sym (next-same h.count))

        few : (q : RowId) → q.0 < length plan.rows → counted_in u.ledger q ≤ 16
        few q inside = search (rules, cases_eq, count_by-le-length, shape, ledger, same_row)

        holding : (q : RowId) (e : BallSettings) → q.0 < length plan.rows
            → (row_at plan q).settings ≡ kinds.BallDevice e
            → counted_in u.ledger q ≡ balls_at (device_state next_devices q)
        holding q e inside of =
            elim (cases_eq q.0 r.0) [
              | inl same ↦ subst (λ (k : RowId). counted_in u.ledger k ≡ balls_at (device_state next_devices k))
                  (same_row q same) balls_here
              | inr other ↦ others q inside other ∙ (h.holding q e inside of ∙ ap balls_at (sym (next-other q other)))
            ]

        away : (target : BallTarget) → IsTargetThere (length plan.rows) target
            → transit_to u.ledger target + later target
            ≡ count_by (λ (q : RowId). is_device_away (device_state next_devices q)) (feeders_of plan target)
        away target there =
            let changes = row-changes (λ (q : RowId). feeds target (row_at plan q).settings)
            (λ (q : RowId). is_device_away (device_at s q))
            (λ (q : RowId). is_device_away (device_state next_devices q)) r.0
            (λ q other. ap is_device_away (sym (next-other q other))) (length plan.rows) within in
            let feeding : feeds target (row_at plan r).settings ≡ is_target target d.target = ap (feeds target) is in
            let before : one (feeds target (row_at plan r).settings && is_device_away (device_at s r))
            ≡ one (is_target target d.target && is_away b.eject) =
            ap₂ (λ (x y : Bool). one (x && y)) feeding (ap is_device_away was) in
            let after : one (feeds target (row_at plan r).settings && is_device_away (device_state next_devices r))
            ≡ one (is_target target d.target && is_away t.eject) =
            ap₂ (λ (x y : Bool). one (x && y)) feeding (ap is_device_away (next-same h.count)) in
            omega (arith, changes, before, after, h.away target there, transit target there)
