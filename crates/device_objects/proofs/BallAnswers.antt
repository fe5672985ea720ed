-- What ball devices answer is among their outcomes.
use Rattle.std.proofs.Common.{rules, ◌≡◌, ℕ, zero, suc, ◌+◌, ◌<◌, min, Bool, true, false, Option, None, Some, is_some}
use Rattle.std.proofs.Common.{List, [], ◌∷◌, ◌++◌, ◌&&◌, drop, option_map, nat_lt, if◌then◌else◌, refl, arith}
use Rattle.std.{specs.List.{All, list_any}, proofs.lemmas.Bool.{and_from, lt-ltb, or_left, or_right, false≢true}}
use Rattle.std.proofs.lemmas.List.{append-nil, Elements.All-weaker, Folds.list_any_none}
use Rattle.plan_tables.specs.declared.devices.{Act.Act, BallSettings.BallSettings}
use Rattle.plan_tables.specs.declared.devices.Act.TheVariants as acts
use Rattle.device_objects.specs.declared.{device.Call.Call, state.{BallSwitch.BallSwitch, BallState.BallState}}
use Rattle.device_objects.specs.declared.device.Call.TheVariants as calls
use Rattle.device_objects.specs.declared.state.Eject.{Eject, TheVariants.{Idle, Pulsing, Away}}
use Rattle.device_objects.specs.BallDevice.{empty, switch_at, set_switch, first_due, timeout_of, earlier}
use Rattle.device_objects.specs.BallDevice.{is_timeout_first, entry_list, attempt_list, exit_list, loss_list, attempt}
use Rattle.device_objects.specs.BallDevice.{can_begin, begin, after, end_eject, overdue, confirmation, time_out}
use Rattle.device_objects.specs.BallDevice.{confirm, turn_over, lose_sight, count, count_due, fire, request, act_step}
use Rattle.device_objects.specs.BallDevice.{ball_step, of_attempt, of_ball_fire, of_ball_act, of_ball_device}
use Rattle.device_objects.specs.BallDevice.{IsEjectOf, HasBallShape, may_begin, may_eject, ending, moments, of_count}
use Rattle.device_objects.specs.{Laws.MayComeAt, Outcomes.only_if}
use Rattle.device_objects.proofs.Among.{In, here, there, at_last, at_left, at_right, if_holds, by, either}
use Rattle.device_objects.proofs.BallShapes.{can_begin-parts, ended-shape, first_due-within, with_switch}

-- ---- moments

-- what is due first is there
timeout-some : (first : Option (ℕ × ℕ)) (timeout : Option ℕ) → is_timeout_first first timeout ≡ true
    → is_some timeout ≡ true
timeout-some first timeout is = search rules

first-some : (first : Option (ℕ × ℕ)) (timeout : Option ℕ) → is_timeout_first first timeout ≡ false
    → is_some (earlier (option_map (λ a. a.0) first) timeout) ≡ true → is_some first ≡ true
first-some first timeout is may = search rules

-- ---- balls and attempts

-- if a ball counts, the device has a ball switch
some_switch : (n : ℕ) (bs : List BallSwitch) → All (λ b. b ≡ empty) (drop n bs) → list_any (λ b. b.counted) bs ≡ true
    → nat_lt 0 n ≡ true
some_switch zero bs unused counts = search (rules, list_any_none, All-weaker)
some_switch (suc n) bs unused counts = lt-ltb 0 (suc n) (omega arith)

module _ (d : BallSettings) where
  -- these lists, after which it begins to eject a ball, or not
  either_ending : (lists : List ℕ) (can : Bool) (x y : BallState) → (can ≡ true → may_begin d ≡ true)
      → In (lists ++ (if◌then◌else◌ {A = BallState × List ℕ} can (x, attempt_list ∷ []) (y, [])).1) (ending d lists)
  either_ending lists true x y may = there (if_holds (may_begin d) (may refl) here)
  either_ending lists false x y may = by (append-nil lists) here

  may_begin-from : (s : BallState) → HasBallShape d s → can_begin d s ≡ true → may_begin d ≡ true
  may_begin-from s shape can = search (rules, can_begin-parts, and_from, nat_lt, some_switch)

  ending-in : (lists : List ℕ) (now : ℕ) (s : BallState) → (can_begin d s ≡ true → may_begin d ≡ true)
      → In (after lists (begin d now s)).1 (ending d lists)
  ending-in lists now s may = either_ending lists (can_begin d s) (attempt d 1 now s).0 s may

  -- ---- a ball switch counts

  left-in : may_eject d ≡ true → In (exit_list ∷ []) (of_count d)
  left-in may =
      at_left ((loss_list ∷ []) ∷ []) (at_right (ending d (entry_list ∷ [])) (if_holds (may_eject d) may here))

  lost-in : In (loss_list ∷ []) (of_count d)
  lost-in = at_last (ending d (entry_list ∷ []) ++ only_if (may_eject d) ((exit_list ∷ []) ∷ []))

  gone-in : (now : ℕ) (eject : Eject) (s : BallState) → IsEjectOf d eject → In (lose_sight d now eject s).1 (of_count d)
  gone-in now eject s is = search (rules, left-in, or_right, lost-in, or_left)

  count-in : (now i : ℕ) (s : BallState) → i < d.switches → HasBallShape d s → In (count d now i s).1 (of_count d)
  count-in now i s within shape =
      let t : BallState = set_switch i (turn_over (switch_at s i)) s in
      let still : HasBallShape d t = with_switch d i (turn_over (switch_at s i)) s within shape in
      either (switch_at s i).counted (lose_sight d now s.eject t) (after (entry_list ∷ []) (begin d now t))
      (λ counted. gone-in now s.eject t shape.eject)
      (λ not. at_left ((loss_list ∷ []) ∷ [])
      (at_left (only_if (may_eject d) ((exit_list ∷ []) ∷ []))
      (ending-in (entry_list ∷ []) now t (may_begin-from t still))))

  -- ---- an attempt is over

  time_out-in : (now : ℕ) (eject : Eject) (s : BallState) → IsEjectOf d eject → is_some (timeout_of eject) ≡ true
      → HasBallShape d (end_eject s) → In (time_out d now eject s).1 (of_ball_fire d)
  time_out-in now Idle s is due shape = absurd (false≢true due)
  time_out-in now (Pulsing a) s is due shape = search (rules, at_left, at_right, nat_lt, if_holds, either, here)
  time_out-in now (Away a) s is due shape = search (rules, at_right, nat_lt, if_holds, ending-in, may_begin-from)

  count_due-in : (now : ℕ) (first : Option (ℕ × ℕ)) (s : BallState) → first_due s ≡ first → is_some first ≡ true
      → HasBallShape d s → In (count_due d now first s).1 (of_ball_fire d)
  count_due-in now None s is due shape = absurd (false≢true due)
  count_due-in now (Some a) s is due shape =
      let within : a.1 < d.switches = first_due-within d s a shape is in
      at_left (only_if (may_eject d) (ending d (overdue d.target)))
      (at_left (only_if d.has_coil (of_attempt d))
      (if_holds (nat_lt 0 d.switches) (lt-ltb 0 d.switches (omega (arith, within))) (count-in now a.1 s within shape)))

  fire-in : (now : ℕ) (s : BallState) → HasBallShape d s → MayComeAt calls.Fire (moments s)
      → In (fire d now s).1 (of_ball_fire d)
  fire-in now s shape may = search (rules, time_out-in, timeout-some, ended-shape, count_due-in, first-some)

  -- ---- acts

  confirm-in : (now : ℕ) (eject : Eject) (s : BallState) → IsEjectOf d eject → HasBallShape d (end_eject s)
      → In (confirm d now eject s).1 (of_ball_act d acts.Confirm)
  confirm-in now (Away a) s is shape =
      there (if_holds (may_eject d) is.0
      (ending-in (confirmation d.target) now (end_eject s) (may_begin-from (end_eject s) shape)))
  confirm-in now _ s is shape = here

  either_request : (n : ℕ) (asked can : Bool) (x y z : BallState)
      → (asked ≡ true → can ≡ true → (d.trough && may_begin d) ≡ true)
      → In (if◌then◌else◌ {A = BallState × List ℕ} asked (if can then (x, attempt_list ∷ []) else (y, [])) (z, [])).1
      (of_ball_act d (acts.Request n))
  either_request n true true x y z may = there (if_holds (d.trough && may_begin d) (may refl refl) here)
  either_request n _ _ x y z may = here

  requested-in : (n now : ℕ) (s : BallState) → HasBallShape d s
      → In (request d n now s).1 (of_ball_act d (acts.Request n))
  requested-in n now s shape =
      let t : BallState = record s { wanted = min (s.wanted + n) 255 } in
      either_request n d.trough (can_begin d t) (attempt d 1 now t).0 t s
      (λ asked can.
      let begins = can_begin-parts d t can in
      and_from d.trough (may_begin d) asked
      (and_from d.has_coil (nat_lt 0 d.switches) begins.1
      (some_switch d.switches s.switches shape.rest_is_empty begins.0)))

  act-in : (act : Act) (now : ℕ) (s : BallState) → HasBallShape d s → In (act_step d act now s).1 (of_ball_act d act)
  act-in acts.Confirm now s shape = confirm-in now s.eject s shape.eject (ended-shape d s shape)
  act-in (acts.Request n) now s shape = requested-in n now s shape
  act-in _ now s shape = here

  pub ball-in : (call : Call) (now : ℕ) (s : BallState) → HasBallShape d s → MayComeAt call (moments s)
      → In (ball_step d call now s).1 (of_ball_device d call)
  ball-in calls.Fire now s shape may = fire-in now s shape may
  ball-in (calls.Act act) now s shape may = act-in act now s shape
  ball-in _ now s shape may = here
