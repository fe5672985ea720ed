-- Each outcome of a ball device is the answer of some state.
use Rattle.std.proofs.Common.{rules, ◌≡◌, ℕ, zero, suc, ◌+◌, ◌<◌, ◌≤◌, min, max, inl, inr, Bool, true, false, Option}
use Rattle.std.proofs.Common.{None, Some, unwrap_or, is_some, List, [], ◌∷◌, ◌++◌, ◌&&◌, ◌||◌, not, drop, replicate}
use Rattle.std.{proofs.Common.{nat_lt, refl, ap, ◌∙◌, arith}, specs.List.All}
use Rattle.std.proofs.lemmas.Bool.{and_from, and_left, and_parts, cases_Bool, lt-ltb, ltb-true, or_cases, or_right}
use Rattle.std.proofs.lemmas.List.{append-nil, Elements.{All-append, All-cons, All-drop, All-replicate}}
use Rattle.plan_tables.specs.{declared.devices.{Act.Act, BallSettings.BallSettings}, Devices.IsBallDeviceWithin}
use Rattle.plan_tables.specs.declared.devices.Act.TheVariants as acts
use Rattle.device_objects.specs.declared.{device.Call.Call, state.Eject.{Eject, TheVariants.{Idle, Pulsing, Away}}}
use Rattle.device_objects.specs.declared.device.Call.TheVariants as calls
use Rattle.device_objects.specs.declared.state.{Attempt.Attempt, BallSwitch.BallSwitch, BallState.BallState}
use Rattle.device_objects.specs.BallDevice.{empty, first_state, set_switch, turn_over, entry_list, attempt_list}
use Rattle.device_objects.specs.BallDevice.{exit_list, loss_list, failure_list, attempt, can_begin, begin, after}
use Rattle.device_objects.specs.BallDevice.{end_eject, may_try_again, next_number, greatest_attempt, ball_step}
use Rattle.device_objects.specs.BallDevice.{IsEjectOf, HasBallShape, ball_device, may_begin, may_eject, ending, moments}
use Rattle.device_objects.specs.BallDevice.{of_count, of_attempt, of_ball_fire, of_ball_act, of_ball_device}
use Rattle.device_objects.specs.{Laws.{MayComeAt, IsAnswerOf}, Outcomes.only_if}
use Rattle.device_objects.proofs.{Among.{one, all_if, if_true, if_false}, BallShapes.{first_attempt, first_ball-shape}}

-- ---- states

-- a ball switch that is due, and one with a ball
abbrev filling : BallSwitch
filling = record { counted = false; due = Some 0 }

abbrev emptying : BallSwitch
emptying = record { counted = true; due = Some 0 }

abbrev full : BallSwitch
full = record { counted = true; due = None }

-- a state with this first ball switch
abbrev state_with : BallSwitch → Eject → ℕ → BallState
state_with b eject wanted = record { switches = b ∷ replicate 15 empty; eject = eject; wanted = wanted }

-- an attempt of this number that is over
abbrev over : ℕ → Attempt
over number = record { number = number; timeout = 0 }

unused : (n : ℕ) (b : BallSwitch) → (0 < n) → All (λ c. c ≡ empty) (drop n (b ∷ replicate 15 empty))
unused zero b some = absurd (omega (arith, some))
unused (suc n) b some = All-drop (λ c. c ≡ empty) n (replicate 15 empty) (All-replicate (λ c. c ≡ empty) 15 empty refl)

-- the number of the last attempt, if there is one
last_attempt : (most : Option ℕ) → is_some most ≡ true
    → (n : ℕ) × (1 ≤ n) × (n ≤ max 1 (unwrap_or most greatest_attempt)) × (may_try_again most n ≡ false)
last_attempt most some = search rules

module _ (d : BallSettings) (limits : IsBallDeviceWithin d) where
  answered : (call : Call) (lists : List ℕ) (s : BallState) → HasBallShape d s → MayComeAt call (moments s)
      → (ball_step d call 0 s).1 ≡ lists → IsAnswerOf (ball_device d) moments call lists
  answered call lists s shape may answers = search rules

  shape_with : (b : BallSwitch) (eject : Eject) (wanted : ℕ) → 0 < d.switches → IsEjectOf d eject → wanted ≤ 255
      → HasBallShape d (state_with b eject wanted)
  shape_with b eject wanted some of few = search (rules, unused)

  -- a device with no ball
  abbrev bare : Eject → BallState
  bare eject = state_with empty eject 0

  bare-shape : (eject : Eject) → IsEjectOf d eject → HasBallShape d (bare eject)
  bare-shape eject of = search (rules, unused, All-drop, All-replicate)

  began : (s : BallState) → can_begin d s ≡ true → (begin d 0 s).1 ≡ attempt_list ∷ []
  began s can = if_true (can_begin d s) (attempt d 1 0 s) (s, []) can

  did_not : (s : BallState) → can_begin d s ≡ false → (begin d 0 s).1 ≡ []
  did_not s cannot = if_false (can_begin d s) (attempt d 1 0 s) (s, []) cannot

  -- a device with a coil can eject a ball that it has, of which a trough wants one
  can : d.has_coil ≡ true → (wanted : Bool) → wanted ≡ true → (d.has_coil && (not d.trough || wanted)) ≡ true
  can coil wanted is = and_from d.has_coil (not d.trough || wanted) coil (or_right (not d.trough) wanted is)

  -- these lists are answered at the end of an eject, after which the device begins another, or not
  abbrev gone_off : BallSwitch → ℕ → BallState
  gone_off b wanted = state_with b (Away (over 1)) wanted

  ending-comes : (call : Call) (lists : List ℕ) → may_eject d ≡ true
      → MayComeAt call (moments (gone_off empty 0))
      → MayComeAt call (moments (gone_off full 2))
      → (ball_step d call 0 (gone_off empty 0)).1 ≡ lists ++ []
      → (ball_step d call 0 (gone_off full 2)).1 ≡ lists ++ (begin d 0 (end_eject (gone_off full 2))).1
      → All (IsAnswerOf (ball_device d) moments call) (ending d lists)
  ending-comes call lists may bare_may full_may bare_is full_is =
      let Answer : List ℕ → Type 0 = IsAnswerOf (ball_device d) moments call in
      let t : BallState = end_eject (gone_off full 2) in
      All-cons Answer lists (only_if (may_begin d) ((lists ++ attempt_list ∷ []) ∷ []))
      (answered call lists (gone_off empty 0) (bare-shape (Away (over 1)) (may, first_attempt d)) bare_may
      (bare_is ∙ append-nil lists))
      (all_if Answer (may_begin d) ((lists ++ attempt_list ∷ []) ∷ [])
      (λ begins.
      let parts = and_parts d.has_coil (nat_lt 0 d.switches) begins in
      one Answer (lists ++ attempt_list ∷ [])
      (answered call (lists ++ attempt_list ∷ []) (gone_off full 2)
      (shape_with full (Away (over 1)) 2 (ltb-true 0 d.switches parts.1) (may, first_attempt d) (omega arith)) full_may
      (full_is ∙ ap (λ more. lists ++ more) (began t (can parts.0 true refl))))))

  -- ---- a ball switch counts

  entered-comes : 0 < d.switches → IsAnswerOf (ball_device d) moments calls.Fire (entry_list ∷ [])
  entered-comes some =
      elim (cases_Bool d.has_coil) [
        | inl coil ↦
            answered calls.Fire (entry_list ∷ []) (state_with filling (Pulsing (over 1)) 0)
            (shape_with filling (Pulsing (over 1)) 0 some (coil, first_attempt d) (omega arith)) refl refl
        | inr none ↦
            let s : BallState = state_with filling Idle 0 in
            answered calls.Fire (entry_list ∷ []) s (shape_with filling Idle 0 some tt (omega arith)) refl
            (ap (λ more. entry_list ∷ more)
            (did_not (set_switch 0 (turn_over filling) s) (and_left d.has_coil (not d.trough || false) none)))
      ]

  left-comes : 0 < d.switches → may_eject d ≡ true → IsAnswerOf (ball_device d) moments calls.Fire (exit_list ∷ [])
  left-comes some may =
      elim (or_cases d.has_coil d.ejects.mechanical may) [
        | inl coil ↦
            answered calls.Fire (exit_list ∷ []) (state_with emptying (Pulsing (over 1)) 0)
            (shape_with emptying (Pulsing (over 1)) 0 some (coil, first_attempt d) (omega arith)) refl refl
        | inr hand ↦
            let s : BallState = state_with emptying Idle 0 in
            let t : BallState = set_switch 0 (turn_over emptying) s in
            let first : Attempt = record { number = 1; timeout = 0 + d.ejects.timeout } in
            answered calls.Fire (exit_list ∷ []) s (shape_with emptying Idle 0 some tt (omega arith)) refl
            (if_true d.ejects.mechanical (record t { eject = Away first }, exit_list ∷ []) (t, loss_list ∷ []) hand)
      ]

  lost-comes : 0 < d.switches → IsAnswerOf (ball_device d) moments calls.Fire (loss_list ∷ [])
  lost-comes some =
      elim (cases_Bool d.ejects.mechanical) [
        | inl hand ↦
            answered calls.Fire (loss_list ∷ []) (state_with emptying (Away (over 1)) 0)
            (shape_with emptying (Away (over 1)) 0 some (or_right d.has_coil d.ejects.mechanical hand, first_attempt d)
            (omega arith)) refl refl
        | inr none ↦
            let s : BallState = state_with emptying Idle 0 in
            let t : BallState = set_switch 0 (turn_over emptying) s in
            let first : Attempt = record { number = 1; timeout = 0 + d.ejects.timeout } in
            answered calls.Fire (loss_list ∷ []) s (shape_with emptying Idle 0 some tt (omega arith)) refl
            (if_false d.ejects.mechanical (record t { eject = Away first }, exit_list ∷ []) (t, loss_list ∷ []) none)
      ]

  count-comes : 0 < d.switches → All (IsAnswerOf (ball_device d) moments calls.Fire) (of_count d)
  count-comes some =
      let Answer : List ℕ → Type 0 = IsAnswerOf (ball_device d) moments calls.Fire in
      let begins : List (List ℕ) = only_if (may_begin d) ((entry_list ∷ attempt_list ∷ []) ∷ []) in
      let leaves : List (List ℕ) = only_if (may_eject d) ((exit_list ∷ []) ∷ []) in
      let s : BallState = state_with filling Idle 1 in
      All-append Answer (ending d (entry_list ∷ []) ++ leaves) ((loss_list ∷ []) ∷ [])
      (All-append Answer (ending d (entry_list ∷ [])) leaves
      (All-cons Answer (entry_list ∷ []) begins (entered-comes some)
      (all_if Answer (may_begin d) ((entry_list ∷ attempt_list ∷ []) ∷ [])
      (λ may.
      let parts = and_parts d.has_coil (nat_lt 0 d.switches) may in
      one Answer (entry_list ∷ attempt_list ∷ [])
      (answered calls.Fire (entry_list ∷ attempt_list ∷ []) s (shape_with filling Idle 1 some tt (omega arith)) refl
      (ap (λ more. entry_list ∷ more) (began (set_switch 0 (turn_over filling) s) (can parts.0 true refl)))))))
      (all_if Answer (may_eject d) ((exit_list ∷ []) ∷ []) (λ may. one Answer (exit_list ∷ []) (left-comes some may))))
      (one Answer (loss_list ∷ []) (lost-comes some))

  -- ---- an attempt is over

  attempt-comes : d.has_coil ≡ true → All (IsAnswerOf (ball_device d) moments calls.Fire) (of_attempt d)
  attempt-comes coil =
      let Answer : List ℕ → Type 0 = IsAnswerOf (ball_device d) moments calls.Fire in
      All-append Answer (only_if (may_try_again d.ejects.max_attempts 1) ((failure_list ∷ attempt_list ∷ []) ∷ []))
      (only_if (is_some d.ejects.max_attempts) ((failure_list ∷ []) ∷ []))
      (all_if Answer (may_try_again d.ejects.max_attempts 1) ((failure_list ∷ attempt_list ∷ []) ∷ [])
      (λ may.
      let s : BallState = bare (Pulsing (over 1)) in
      one Answer (failure_list ∷ attempt_list ∷ [])
      (answered calls.Fire (failure_list ∷ attempt_list ∷ []) s (bare-shape (Pulsing (over 1)) (coil, first_attempt d))
      refl
      (if_true (may_try_again d.ejects.max_attempts 1)
      (after (failure_list ∷ []) (attempt d (next_number d.ejects.max_attempts 1) 0 s))
      (record s { eject = Idle; wanted = 0 }, failure_list ∷ []) may))))
      (all_if Answer (is_some d.ejects.max_attempts) ((failure_list ∷ []) ∷ [])
      (λ some. one Answer (failure_list ∷ []) (gives_up (last_attempt d.ejects.max_attempts some))))
    where
      gives_up : (n : ℕ) × (1 ≤ n) × (n ≤ max 1 (unwrap_or d.ejects.max_attempts greatest_attempt))
          × (may_try_again d.ejects.max_attempts n ≡ false)
          → IsAnswerOf (ball_device d) moments calls.Fire (failure_list ∷ [])
      gives_up last =
          let s : BallState = bare (Pulsing (over last.0)) in
          answered calls.Fire (failure_list ∷ []) s (bare-shape (Pulsing (over last.0)) (coil, (last.1, last.2))) refl
          (if_false (may_try_again d.ejects.max_attempts last.0)
          (after (failure_list ∷ []) (attempt d (next_number d.ejects.max_attempts last.0) 0 s))
          (record s { eject = Idle; wanted = 0 }, failure_list ∷ []) last.3)

  fire-comes : All (IsAnswerOf (ball_device d) moments calls.Fire) (of_ball_fire d)
  fire-comes = search (rules, nat_lt, All-append, all_if, count-comes, ltb-true, attempt-comes, ending-comes)

  -- ---- acts

  quiet : (call : Call) → MayComeAt call (moments first_state) → (ball_step d call 0 first_state).1 ≡ []
      → IsAnswerOf (ball_device d) moments call []
  quiet call may answers = answered call [] first_state (first_ball-shape d) may answers

  -- a request that changes nothing, as there is no ball
  refused : (n : ℕ) → IsAnswerOf (ball_device d) moments (calls.Act (acts.Request n)) []
  refused n = search (rules, cases_Bool, quiet, if_true, if_false)

  -- a request of any number of balls, before which one is wanted
  request-comes : (n : ℕ) → (d.trough && may_begin d) ≡ true
      → IsAnswerOf (ball_device d) moments (calls.Act (acts.Request n)) (attempt_list ∷ [])
  request-comes n is =
      let may = and_parts d.trough (may_begin d) is in
      let parts = and_parts d.has_coil (nat_lt 0 d.switches) may.1 in
      let s : BallState = state_with full Idle 1 in
      let most : ℕ = min (1 + n) 255 in
      let t : BallState = record s { wanted = most } in
      answered (calls.Act (acts.Request n)) (attempt_list ∷ []) s
      (shape_with full Idle 1 (ltb-true 0 d.switches parts.1) tt (omega arith)) tt
      (if_true d.trough (begin d 0 t) (s, []) may.0
      ∙ began t (can parts.0 (nat_lt 0 most) (lt-ltb 0 most (omega arith))))

  act-comes : (act : Act) → All (IsAnswerOf (ball_device d) moments (calls.Act act)) (of_ball_act d act)
  act-comes act = search (rules, All-cons, quiet, all_if, ending-comes, refused, request-comes)

  pub ball-comes : (call : Call) → All (IsAnswerOf (ball_device d) moments call) (of_ball_device d call)
  ball-comes call = search (rules, quiet, fire-comes, act-comes)
