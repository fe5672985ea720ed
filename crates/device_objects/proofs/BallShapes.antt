-- Ball devices keep their shape.
use Rattle.std.proofs.Common.{rules, ◌≡◌, ℕ, ◌+◌, ◌-◌, ◌<◌, ◌≤◌, inl, inr, max, Bool, true, false, Option, None, Some}
use Rattle.std.proofs.Common.{unwrap_or, List, length, get_or, drop, map, nat_lt, if◌then◌else◌, sym, ap, ◌∙◌, arith}
use Rattle.std.{specs.List.All, proofs.lemmas.{Bool.{cases_lt, ltb-true}, Option.none-some}}
use Rattle.std.proofs.lemmas.List.{drop-map, get_or-drop, get_or_past, length-drop, length-map, length-set, drop-set-lt}
use Rattle.std.proofs.lemmas.List.Elements.{All-drop, All-map, All-replicate, All-same, All-weaker}
use Rattle.plan_tables.specs.declared.devices.{Act.Act, BallSettings.BallSettings}
use Rattle.plan_tables.specs.declared.devices.Act.TheVariants as acts
use Rattle.device_objects.specs.declared.{device.Call.Call, state.Eject.{Eject, TheVariants.Idle}}
use Rattle.device_objects.specs.declared.device.Call.TheVariants as calls
use Rattle.device_objects.specs.declared.state.{BallSwitch.BallSwitch, BallState.BallState}
use Rattle.device_objects.specs.BallDevice.{empty, first_state, set_switch, has_ball, first_due, can_begin, begin}
use Rattle.device_objects.specs.BallDevice.{end_eject, may_try_again, next_number, greatest_attempt, time_out, confirm}
use Rattle.device_objects.specs.BallDevice.{switch_level, lose_sight, count, count_due, fire, request, act_step, halt}
use Rattle.device_objects.specs.BallDevice.{not_due, ball_step, IsAttempt, IsEjectOf, HasBallShape}
use Rattle.device_objects.proofs.BallDue.{first_due-is_due}

-- ---- ball switches that a device does not have

abbrev AreEmpty : List BallSwitch → Type 0
AreEmpty bs = All (λ b. b ≡ empty) bs

-- from n on they are empty
unused_at : (n : ℕ) (bs : List BallSwitch) (i : ℕ) → AreEmpty (drop n bs) → n ≤ i → get_or bs i empty ≡ empty
unused_at n bs i unused past =
    elim (cases_lt i (length bs)) [
      | inl within ↦
          let same : n + (i - n) ≡ i = omega (arith, past) in
          let at : get_or (drop n bs) (i - n) empty ≡ get_or bs i empty =
          get_or-drop n bs (i - n) empty ∙ ap (λ k. get_or bs k empty) same in
          sym at ∙ unused (i - n) empty (omega (arith, within, past, length-drop n bs))
      | inr out ↦ get_or_past bs i empty out
    ]

-- one that is due is one that the device has
pub due-within : (n : ℕ) (bs : List BallSwitch) (i t : ℕ) → AreEmpty (drop n bs)
    → (get_or bs i empty).due ≡ Some t → i < n
due-within n bs i t unused is =
    elim (cases_lt i n) [
      | inl within ↦ within
      | inr past ↦ absurd (none-some t (sym (ap (λ b. b.due) (unused_at n bs i unused past)) ∙ is))
    ]

not_due-empty : (bs : List BallSwitch) → AreEmpty bs → AreEmpty (map not_due bs)
not_due-empty bs unused =
    All-map (λ b. b ≡ empty) not_due bs
    (All-weaker (λ b. b ≡ empty) (λ b. not_due b ≡ empty) (λ b is. ap not_due is) bs unused)

-- ---- states

module _ (d : BallSettings) where
  pub first_attempt : IsAttempt d 1
  first_attempt = (omega arith, omega arith)

  -- the attempt after another one that is not the last
  next_attempt : (most : Option ℕ) (n : ℕ) → 1 ≤ n → may_try_again most n ≡ true
      → (1 ≤ next_number most n) × (next_number most n ≤ max 1 (unwrap_or most greatest_attempt))
  next_attempt None n some may = (omega arith, omega arith)
  next_attempt (Some most) n some may = let more = ltb-true n most may in (omega arith, omega (arith, more))

  with_eject : (s : BallState) (eject : Eject) (wanted : ℕ) → HasBallShape d s → IsEjectOf d eject → wanted ≤ 255
      → HasBallShape d (record s { eject = eject; wanted = wanted })
  with_eject s eject wanted shape of few = search rules

  pub with_switch : (i : ℕ) (b : BallSwitch) (s : BallState) → i < d.switches → HasBallShape d s
      → HasBallShape d (set_switch i b s)
  with_switch i b s within shape = search (rules, length-set, All-same, drop-set-lt)

  pub first_ball-shape : HasBallShape d first_state
  first_ball-shape = search (rules, All-drop, All-replicate)

  -- a state, and an answer, that is one of two
  one_state : (test : Bool) (x y : BallState) → (test ≡ true → HasBallShape d x) → HasBallShape d y
      → HasBallShape d (if test then x else y)
  one_state test x y first second = search rules

  one_answer : (test : Bool) (x y : BallState × List ℕ) → (test ≡ true → HasBallShape d x.0) → HasBallShape d y.0
      → HasBallShape d (if test then x else y).0
  one_answer test x y first second = search rules

  -- ---- ejecting

  -- what can begin to eject a ball has a ball and a coil
  pub can_begin-parts : (s : BallState) → can_begin d s ≡ true → (has_ball s ≡ true) × (d.has_coil ≡ true)
  can_begin-parts s can = search rules

  begin-shape : (now : ℕ) (s : BallState) → HasBallShape d s → HasBallShape d (begin d now s).0
  begin-shape now s shape = search rules

  pub ended-shape : (s : BallState) → HasBallShape d s → HasBallShape d (end_eject s)
  ended-shape s shape = with_eject s Idle (s.wanted - 1) shape tt (omega (arith, shape.wanted))

  time_out-shape : (now : ℕ) (eject : Eject) (s : BallState) → IsEjectOf d eject → HasBallShape d s
      → HasBallShape d (time_out d now eject s).0
  time_out-shape now eject s is shape = search (rules, next_attempt)

  confirm-shape : (now : ℕ) (eject : Eject) (s : BallState) → HasBallShape d s
      → HasBallShape d (confirm d now eject s).0
  confirm-shape now eject s shape = search rules

  requested-shape : (n now : ℕ) (s : BallState) → HasBallShape d s → HasBallShape d (request d n now s).0
  requested-shape n now s shape = search rules

  -- ---- ball switches

  gone-shape : (now : ℕ) (eject : Eject) (s : BallState) → IsEjectOf d eject → HasBallShape d s
      → HasBallShape d (lose_sight d now eject s).0
  gone-shape now eject s is shape = search rules

  count-shape : (now i : ℕ) (s : BallState) → i < d.switches → HasBallShape d s → HasBallShape d (count d now i s).0
  count-shape now i s within shape = search (rules, with_switch, one_answer, gone-shape, begin-shape)

  -- the ball switch that is due first is one that the device has
  pub first_due-within : (s : BallState) (a : ℕ × ℕ) → HasBallShape d s → first_due s ≡ Some a → a.1 < d.switches
  first_due-within s a shape is =
      let at = first_due-is_due 0 s.switches a is in
      let within : at.0 < d.switches = due-within d.switches s.switches at.0 a.0 shape.rest_is_empty at.2 in
      omega (arith, within, at.1)

  count_due-shape : (now : ℕ) (first : Option (ℕ × ℕ)) (s : BallState) → first_due s ≡ first → HasBallShape d s
      → HasBallShape d (count_due d now first s).0
  count_due-shape now first s is shape = search (rules, count-shape, first_due-within)

  fire-shape : (now : ℕ) (s : BallState) → HasBallShape d s → HasBallShape d (fire d now s).0
  fire-shape now s shape = search (rules, one_answer, time_out-shape, count_due-shape)

  switched-shape : (i : ℕ) (active : Bool) (now : ℕ) (s : BallState) → HasBallShape d s
      → HasBallShape d (switch_level d i active now s)
  switched-shape i active now s shape = search (rules, one_state, nat_lt, with_switch, ltb-true)

  -- ---- steps

  halted-shape : (s : BallState) → HasBallShape d s → HasBallShape d (halt s)
  halted-shape s shape = search (rules, length-map, All-same, drop-map, not_due-empty)

  act-shape : (act : Act) (now : ℕ) (s : BallState) → HasBallShape d s → HasBallShape d (act_step d act now s).0
  act-shape (acts.SwitchOn i) now s shape = switched-shape i true now s shape
  act-shape (acts.SwitchOff i) now s shape = switched-shape i false now s shape
  act-shape acts.Confirm now s shape = confirm-shape now s.eject s shape
  act-shape (acts.Request n) now s shape = requested-shape n now s shape
  act-shape _ now s shape = shape

  pub ball_step-shape : (call : Call) (now : ℕ) (s : BallState) → HasBallShape d s
      → HasBallShape d (ball_step d call now s).0
  ball_step-shape calls.ModeStart now s shape = shape
  ball_step-shape calls.ModeStop now s shape = halted-shape s shape
  ball_step-shape calls.Fire now s shape = fire-shape now s shape
  ball_step-shape (calls.Act act) now s shape = act-shape act now s shape
