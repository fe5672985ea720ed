-- Which ball switches listen to a switch, and what they are told of it.
use Rattle.std.proofs.Common.{rules, ◌≡◌, ℕ, zero, suc, ◌<◌, ◌==◌, inl, inr, Bool, true, false, cond, ◌&&◌, ◌||◌, List}
use Rattle.std.proofs.Common.{[], ◌∷◌, ◌++◌, length, get_or, refl, ap, ap₂, sym, ◌∙◌, subst, arith}
use Rattle.std.specs.List.{All, AllPairs, flat_map}
use Rattle.std.proofs.lemmas.Bool.{and_from, cases_Bool, cases_eq, eq-eqb, false≢true, ne_eqb, or_cases}
use Rattle.std.proofs.lemmas.List.{get_or-set_same, get_or-set_other, Elements.{All-head, All-tail}}
use Rattle.plan_tables.specs.PlanView.{PlanView, PlanSwitch, act_of_listener, no_row, no_switch, row_at}
use Rattle.plan_tables.specs.{Valid.IsValid, declared.entries.{Listener.Listener, SwitchId.SwitchId}}
use Rattle.plan_tables.specs.declared.devices.{BallSettings.BallSettings, RowId.RowId}
use Rattle.plan_tables.specs.declared.devices.Settings.TheVariants as kinds
use Rattle.device_objects.specs.declared.device.Call.TheVariants as calls
use Rattle.device_objects.specs.declared.state.{BallState.BallState, BallSwitch.BallSwitch, DeviceState.DeviceState}
use Rattle.device_objects.specs.declared.state.DeviceState.TheVariants as states
use Rattle.device_objects.specs.{BallDevice.{empty, note_level, set_switch}, DeviceStep.{device_step, first_state}}
use Rattle.device_objects.specs.BallDevice as balls
use Rattle.plan_tables.specs.BallRows.{AreApart, BookingsAreRight, IsNoBallDevice, IsSwitchOf}
use Rattle.written_machine.specs.{SwitchLines.changes_of, Devices.ActsAreOwn, Machine.tell_listener}
use Rattle.written_machine.specs.Machine.{Machine, set_device, all_do, world_of, device_at, do_answer_by, tell_first}
use Rattle.written_machine.proofs.BallPlays.{is_ball, not_both, one_row, other-plays, IsNoCall}
use Rattle.written_machine.proofs.{BallCalm.{no_lag, IsCalm}, BallRuns.usual-listener}
use Rattle.written_machine.proofs.BallCalls.{call-calm, plays-calm, no_call-usual}
use Rattle.written_machine.proofs.BallCounting.{is_for, is_heard, pairs-head, pairs-tail}
use Rattle.written_machine.proofs.BallSteady.{ball_of, switches_at, plays-steady, no_call-keeping}

-- a ball switch of a row
abbrev pub ball_switch : Machine → RowId → ℕ → BallSwitch
ball_switch s r i = get_or (switches_at s r) i empty

-- ---- no two switches are for one ball switch

or_assoc : (x y z : Bool) → (x || (y || z)) ≡ ((x || y) || z)
or_assoc x y z = search rules

module _ (r : RowId) (i : ℕ) where
  heard-append : (a b : List Listener) → is_heard r i (a ++ b) ≡ (is_heard r i a || is_heard r i b)
  heard-append [] b = refl
  heard-append (l ∷ a) b = ap (λ (x : Bool). is_for r i l || x) (heard-append a b)
      ∙ or_assoc (is_for r i l) (is_heard r i a) (is_heard r i b)

  -- two that are for it are not apart
  for-apart : (l m : Listener) → is_for r i l ≡ true → AreApart l m → is_for r i m ≡ true → ⊥
  for-apart l m its are also = search rules

  no_more : (l : Listener) (ls : List Listener) → is_for r i l ≡ true → All (AreApart l) ls → is_heard r i ls ≡ true → ⊥
  no_more l [] its apart heard = false≢true heard
  no_more l (m ∷ ls) its apart heard =
      elim (or_cases (is_for r i m) (is_heard r i ls) heard) [
        | inl first ↦ for-apart l m its (All-head (AreApart l) m ls apart) first
        | inr more ↦ no_more l ls its (All-tail (AreApart l) m ls apart) more
      ]

  heard-right : (a b : List Listener) → is_heard r i b ≡ true → is_heard r i (a ++ b) ≡ true
  heard-right [] b heard = heard
  heard-right (l ∷ a) b heard = search (rules, cases_Bool, is_for, is_heard, heard-right a b heard)

  parts-apart : (a b : List Listener) → AllPairs AreApart (a ++ b) → is_heard r i a ≡ true → is_heard r i b ≡ true → ⊥
  parts-apart [] b apart one other = false≢true one
  parts-apart (l ∷ a) b apart one other =
      elim (or_cases (is_for r i l) (is_heard r i a) one) [
        | inl first ↦ no_more l (a ++ b) first (pairs-head AreApart l (a ++ b) apart) (heard-right a b other)
        | inr more ↦ parts-apart a b (pairs-tail AreApart l (a ++ b) apart) more other
      ]

  rest-apart : (a b : List Listener) → AllPairs AreApart (a ++ b) → AllPairs AreApart b
  rest-apart [] b apart = apart
  rest-apart (l ∷ a) b apart = rest-apart a b (pairs-tail AreApart l (a ++ b) apart)

  abbrev listeners : PlanSwitch → List Listener
  listeners s = s.listeners

  -- what a switch is for, all are for
  pub heard-all : (xs : List PlanSwitch) (n : ℕ) → is_heard r i (get_or xs n no_switch).listeners ≡ true
      → is_heard r i (flat_map listeners xs) ≡ true
  heard-all [] n heard = heard
  heard-all (x ∷ xs) zero heard = search (rules, heard-append, is_heard)
  heard-all (x ∷ xs) (suc n) heard = heard-right x.listeners (flat_map listeners xs) (heard-all xs n heard)

  pub switches-apart : (xs : List PlanSwitch) (n m : ℕ) → AllPairs AreApart (flat_map listeners xs) → (n ≡ m → ⊥)
      → is_heard r i (get_or xs n no_switch).listeners ≡ true → is_heard r i (get_or xs m no_switch).listeners ≡ true
      → ⊥
  switches-apart [] n m apart other one also = false≢true one
  switches-apart (x ∷ xs) zero zero apart other one also = other refl
  switches-apart (x ∷ xs) zero (suc m) apart other one also =
      parts-apart x.listeners (flat_map listeners xs) apart one (heard-all xs m also)
  switches-apart (x ∷ xs) (suc n) zero apart other one also =
      parts-apart x.listeners (flat_map listeners xs) apart also (heard-all xs n one)
  switches-apart (x ∷ xs) (suc n) (suc m) apart other one also =
      search (
        rules,
        rest-apart,
        switches-apart xs n m (rest-apart x.listeners (flat_map listeners xs) apart)
            (λ same. other (ap (λ (k : ℕ). suc k) same)) one also,
      )

-- ---- what the listeners of a switch are told

module _ (plan : PlanView) (valid : IsValid plan) (own : ActsAreOwn plan) (right : BookingsAreRight plan)
    (active : Bool) where
  -- all ball switches that listen have noted the level, and nothing else has changed
  pub record IsNotedBy (ls : List Listener) (s t : Machine) : Type 0 where
    pub moment : t.moment ≡ s.moment
    pub changes : (n : SwitchId) → changes_of n t.lines ≡ changes_of n s.lines
    pub calm : IsCalm plan no_lag t
    pub switches : (r : RowId) (d : BallSettings) (i : ℕ) → (row_at plan r).settings ≡ kinds.BallDevice d
        → ball_switch t r i ≡ cond (is_heard r i ls) (note_level d active s.moment (ball_switch s r i))
        (ball_switch s r i)

  -- a listener of the plan
  pub record IsListener (l : Listener) : Type 0 where
    pub within : l.row.0 < length plan.rows
    pub its : IsSwitchOf (row_at plan l.row).settings l.switch

  -- one ball device is told
  module _ (l : Listener) (d : BallSettings) (is : (row_at plan l.row).settings ≡ kinds.BallDevice d)
      (fit : IsListener l)
      (s : Machine) (calm : IsCalm plan no_lag s) where
    abbrev ball : BallState
    ball = (calm.shapes l.row d fit.within is).ball

    abbrev next : BallState
    next = set_switch l.switch (note_level d active s.moment (balls.switch_at ball l.switch)) ball

    called-is : device_step (row_at plan l.row).settings (calls.Act (act_of_listener active l)) s.moment (world_of s)
        (device_at s l.row) ≡ (states.BallDevice next, [])
    called-is = search rules

    abbrev after : Machine
    after = set_device l.row (states.BallDevice next) s

    within_16 : l.switch < length ball.switches
    within_16 = search rules

    was : (j : ℕ) → get_or ball.switches j empty ≡ ball_switch s l.row j
    was j = ap (λ (x : DeviceState). get_or (ball_of x).switches j empty) (sym (calm.shapes l.row d fit.within is).is)

    its_place : is_for l.row l.switch l ≡ true
    its_place = and_from (l.row.0 == l.row.0) (l.switch == l.switch) (eq-eqb l.row.0 l.row.0 refl)
        (eq-eqb l.switch l.switch refl)

    -- at its own row
    here : (j : ℕ) → ball_switch after l.row j
        ≡ cond (is_for l.row j l) (note_level d active s.moment (ball_switch s l.row j)) (ball_switch s l.row j)
    here j =
        let in_devices : l.row.0 < length s.devices = let count = calm.count in let within = fit.within
        in omega (arith, count, within) in
        let read : ball_switch after l.row j ≡ get_or next.switches j empty =
        ap (λ (x : DeviceState). get_or (ball_of x).switches j empty)
        (get_or-set_same s.devices l.row.0 (states.BallDevice next) (first_state no_row.settings) in_devices) in
        elim (cases_eq j l.switch) [
          | inl same ↦
              read
              ∙ (ap (λ (k : ℕ). get_or next.switches k empty) same
              ∙ (get_or-set_same ball.switches l.switch (note_level d active s.moment (balls.switch_at ball l.switch))
              empty within_16
              ∙ (ap (note_level d active s.moment) (was l.switch)
              ∙ (ap (λ (b : Bool). cond b (note_level d active s.moment (ball_switch s l.row l.switch))
              (ball_switch s l.row l.switch)) (sym its_place)
              ∙ ap (λ (k : ℕ). cond (is_for l.row k l) (note_level d active s.moment (ball_switch s l.row k))
              (ball_switch s l.row k)) (sym same)))))
          | inr other ↦
              let not : is_for l.row j l ≡ false =
              ap₂ (λ (x y : Bool). x && y) (eq-eqb l.row.0 l.row.0 refl) (ne_eqb l.switch j (λ same. other (sym same)))
              in
              read
              ∙ (get_or-set_other ball.switches l.switch j
              (note_level d active s.moment (balls.switch_at ball l.switch)) empty other
              ∙ (was j ∙ ap (λ (b : Bool). cond b (note_level d active s.moment (ball_switch s l.row j))
              (ball_switch s l.row j)) (sym not)))
        ]

    one-ball : (r : RowId) (e : BallSettings) (j : ℕ) → (row_at plan r).settings ≡ kinds.BallDevice e
        → ball_switch after r j ≡ cond (is_for r j l) (note_level e active s.moment (ball_switch s r j))
        (ball_switch s r j)
    one-ball r e j of =
        elim (cases_eq r.0 l.row.0) [
          | inl same ↦
              let row : l.row ≡ r = ap (λ (k : ℕ). record { 0 = k }) (sym same) in
              let settings : kinds.BallDevice d ≡ kinds.BallDevice e = sym is ∙ (sym (one_row plan r l.row same) ∙ of)
              in
              let one_kind : d ≡ e = cc in
              subst (λ (x : BallSettings). ball_switch after r j
              ≡ cond (is_for r j l) (note_level x active s.moment (ball_switch s r j)) (ball_switch s r j)) one_kind
              (subst (λ (q : RowId). ball_switch after q j
              ≡ cond (is_for q j l) (note_level d active s.moment (ball_switch s q j)) (ball_switch s q j)) row
              (here j))
          | inr other ↦
              let not : is_for r j l ≡ false =
              ap (λ (b : Bool). b && l.switch == j) (ne_eqb l.row.0 r.0 (λ same. other (sym same))) in
              ap (λ (x : DeviceState). get_or (ball_of x).switches j empty)
              (get_or-set_other s.devices l.row.0 r.0 (states.BallDevice next) (first_state no_row.settings) other)
              ∙ ap (λ (b : Bool). cond b (note_level e active s.moment (ball_switch s r j)) (ball_switch s r j))
              (sym not)
        ]

  -- only what it says of one listener
  or_none : (b : Bool) → (b || false) ≡ b
  or_none b = search rules

  pub listener-noted : (l : Listener) (s : Machine) → IsListener l → IsCalm plan no_lag s
      → IsNotedBy (l ∷ []) s (tell_listener plan active l s)
  listener-noted l s fit calm =
      elim (is_ball (row_at plan l.row).settings) [
        | inl is ↦
            let told = call-calm plan valid right (calls.Act (act_of_listener active l)) l.row is.0 fit.within is.1
            (usual-listener active l) s calm in
            let path = called-is l is.0 is.1 fit s calm in
            let states_after : (P : Machine → Type 0) → P (after l is.0 is.1 fit s calm)
            → P (tell_listener plan active l s) =
            λ P h. subst (λ (a : DeviceState × List ℕ). P
            (do_answer_by plan (tell_first plan) l.row a.1 (set_device l.row a.0 s))) (sym path) h in
            record {
              moment = states_after (λ t. t.moment ≡ s.moment) refl;
              changes = λ n. states_after (λ t. changes_of n t.lines ≡ changes_of n s.lines) refl;
              calm = told;
              switches = λ r e j of.
                  states_after (λ t. ball_switch t r j
                  ≡ cond (is_for r j l || false) (note_level e active s.moment (ball_switch s r j))
                  (ball_switch s r j))
                  (one-ball l is.0 is.1 fit s calm r e j of
                  ∙ ap (λ (b : Bool). cond b (note_level e active s.moment (ball_switch s r j)) (ball_switch s r j))
                  (sym (or_none (is_for r j l))));
            }
        | inr not ↦
            let goes = other-plays plan valid.entries own right IsNoCall (calls.Act (act_of_listener active l)) l.row s
            fit.within not in
            let steady = plays-steady plan no_call-keeping goes in
            record {
              moment = steady.moment;
              changes = steady.changes;
              calm = plays-calm plan valid right no_call-usual goes calm;
              switches = λ r e j of.
                  let elsewhere : (l.row.0 == r.0) ≡ false =
                  ne_eqb l.row.0 r.0 (λ same. not_both (row_at plan r).settings e of
                  (subst IsNoBallDevice (one_row plan l.row r same) not)) in
                  let not_for : (is_for r j l || false) ≡ false =
                  ap (λ (b : Bool). (b && l.switch == j) || false) elsewhere in
                  ap (λ (bs : List BallSwitch). get_or bs j empty) (steady.switches r e of)
                  ∙ ap (λ (b : Bool). cond b (note_level e active s.moment (ball_switch s r j)) (ball_switch s r j))
                  (sym not_for);
            }
      ]

  -- noted twice is noted once
  noted-twice : (d : BallSettings) (now : ℕ) (a b : Bool) (x y z : BallSwitch)
      → y ≡ cond a (note_level d active now x) x → z ≡ cond b (note_level d active now y) y
      → z ≡ cond (a || b) (note_level d active now x) x
  noted-twice d now a b x y z one two = search rules

  pub listeners-noted : (ls : List Listener) → All IsListener ls → (s : Machine) → IsCalm plan no_lag s
      → IsNotedBy ls s (all_do (tell_listener plan active) ls s)
  listeners-noted [] all s calm =
      record { moment = refl; changes = λ n. refl; calm = calm; switches = λ r d i is. refl }
  listeners-noted (l ∷ ls) all s calm =
      let first = listener-noted l s (All-head IsListener l ls all) calm in
      let rest = listeners-noted ls (All-tail IsListener l ls all) (tell_listener plan active l s) first.calm in
      record {
        moment = rest.moment ∙ first.moment;
        changes = λ n. rest.changes n ∙ first.changes n;
        calm = rest.calm;
        switches = λ r d i is.
            noted-twice d s.moment (is_for r i l) (is_heard r i ls) (ball_switch s r i)
            (ball_switch (tell_listener plan active l s) r i)
            (ball_switch (all_do (tell_listener plan active) ls (tell_listener plan active l s)) r i)
            (first.switches r d i is ∙ ap (λ (b : Bool). cond b (note_level d active s.moment (ball_switch s r i))
            (ball_switch s r i)) (or_none (is_for r i l)))
            (rest.switches r d i is
            ∙ ap (λ (now : ℕ). cond (is_heard r i ls)
            (note_level d active now (ball_switch (tell_listener plan active l s) r i))
            (ball_switch (tell_listener plan active l s) r i)) first.moment);
      }
