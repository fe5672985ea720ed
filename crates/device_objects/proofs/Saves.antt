-- Ball saves are lawful.
use Rattle.std.proofs.Common.{rules, ◌≡◌, ℕ, ◌-◌, ◌==◌, ◌<◌, ◌≤◌, nat_lt, true, false, None, Some, List, [], ◌∷◌, ◌++◌}
use Rattle.std.proofs.{Common.{refl, arith}, lemmas.Bool.{eqb-false, lt-ltb, ltb-true, false≢true}}
use Rattle.std.{specs.List.All, proofs.lemmas.{Option.none-some, List.Elements.{All-nil, All-append, All-cons}}}
use Rattle.plan_tables.specs.declared.devices.{Act.Act, Settings.TheVariants.BallSave}
use Rattle.plan_tables.specs.Devices.{IsWithinLimits, list_count}
use Rattle.plan_tables.specs.declared.devices.Act.TheVariants as acts
use Rattle.machine_settings.specs.declared.settings.SaveSettings.{SaveSettings}
use Rattle.device_objects.specs.declared.{device.Call.Call, state.SaveState.SaveState}
use Rattle.device_objects.specs.BallSave.{HasSaveShape, act_step, ball_save, ball_saves, disable_list, enable_list}
use Rattle.device_objects.specs.BallSave.{end_of, first_state, moments, of_save, of_save_act, save_state, save_step}
use Rattle.device_objects.specs.{BallSave.{save_ball, save_list}, Kinds.moments_of, Outcomes.only_if}
use Rattle.device_objects.specs.Laws.{MayComeAt, IsAnswerOf, IsLawful}
use Rattle.device_objects.proofs.Among.{In, here, there, at_last, at_left, contains, if_holds, by, either, one, all_if}
use Rattle.device_objects.proofs.{Among.{if_true, two}, InStates.in_states-lawful}
use Rattle.device_objects.specs.declared.device.Call.TheVariants as calls
use Rattle.device_objects.specs.declared.state.DeviceState.TheVariants as states

-- the state of a ball save that is active no more
abbrev shut : SaveState → SaveState
shut s = record s { active = false; due = None }

-- the state after it was enabled
abbrev opened : SaveSettings → ℕ → SaveState
opened b now = record { active = true; balls_left = b.balls; due = end_of b now }

-- the state with one ball fewer left
abbrev with_fewer : SaveState → SaveState
with_fewer s = record s { balls_left = s.balls_left - 1 }

-- one that has balls left after it has saved one saves several
saves_several : (balls_left balls : ℕ) → balls_left ≤ balls → (balls_left - 1 == 0) ≡ false → nat_lt 1 balls ≡ true
saves_several balls_left balls low more = lt-ltb 1 balls (omega (arith, low, eqb-false (balls_left - 1) 0 more))

module _ (b : SaveSettings) where
  -- ---- states keep their shape

  first_save-shape : HasSaveShape b first_state
  first_save-shape = record { balls_left = omega arith; due = λ some. absurd (false≢true some) }

  save_step-shape : (call : Call) (now : ℕ) (s : SaveState) → HasSaveShape b s
      → HasSaveShape b (save_step b call now s).0
  save_step-shape call now s shape = search rules

  -- ---- answers are outcomes

  saved-in : (s : SaveState) → HasSaveShape b s → In (save_ball (with_fewer s)).1 (of_save_act b acts.Save)
  saved-in s shape =
      either (s.balls_left - 1 == 0) (shut (with_fewer s), save_list ∷ disable_list ∷ []) (with_fewer s, save_list ∷ [])
      (λ last. there (at_last (only_if (nat_lt 1 b.balls) ((save_list ∷ []) ∷ []))))
      (λ more. there (at_left ((save_list ∷ disable_list ∷ []) ∷ [])
      (if_holds (nat_lt 1 b.balls) (saves_several s.balls_left b.balls shape.balls_left more) here)))

  act-in : (act : Act) (now : ℕ) (s : SaveState) → HasSaveShape b s → In (act_step b act now s).1 (of_save_act b act)
  act-in acts.Enable now s shape =
      either s.active (s, []) (opened b now, enable_list ∷ []) (λ is. here) (λ not. there here)
  act-in acts.Disable now s shape = either s.active (shut s, disable_list ∷ []) (s, []) (λ is. there here) (λ not. here)
  act-in acts.Save now s shape =
      either s.active (save_ball (with_fewer s)) (s, []) (λ is. saved-in s shape) (λ not. here)
  act-in _ now s shape = here

  save-in : (call : Call) (now : ℕ) (s : SaveState) → HasSaveShape b s → MayComeAt call (moments s)
      → In (save_step b call now s).1 (of_save b call)
  save-in calls.Fire now s shape may =
      let parts : (s.active ≡ true) × (0 < b.active_time) = shape.due may in
      if_holds (nat_lt 0 b.active_time) (lt-ltb 0 b.active_time parts.1)
      (by (if_true s.active (shut s, disable_list ∷ []) (s, []) parts.0) here)
  save-in (calls.Act act) now s shape may = act-in act now s shape
  save-in _ now s shape may = here

  -- ---- each outcome comes about

  answered : (call : Call) (lists : List ℕ) (s : SaveState) → HasSaveShape b s → MayComeAt call (moments s)
      → (save_step b call 0 s).1 ≡ lists → IsAnswerOf (ball_save b) moments call lists
  answered call lists s shape may answers = search rules

  -- one that is active, with so many balls left and without an end
  abbrev active_with : ℕ → SaveState
  active_with balls_left = record { active = true; balls_left = balls_left; due = None }

  active-shape : (balls_left : ℕ) → balls_left ≤ b.balls → HasSaveShape b (active_with balls_left)
  active-shape balls_left low = record { balls_left = low; due = λ some. absurd (false≢true some) }

  quiet : (call : Call) → MayComeAt call (moments first_state) → (save_step b call 0 first_state).1 ≡ []
      → IsAnswerOf (ball_save b) moments call []
  quiet call may answers = answered call [] first_state first_save-shape may answers

  from_active : (act : Act) (lists : List ℕ) (balls_left : ℕ) → balls_left ≤ b.balls
      → (act_step b act 0 (active_with balls_left)).1 ≡ lists
      → IsAnswerOf (ball_save b) moments (calls.Act act) lists
  from_active act lists balls_left low answers = search (rules, answered, active-shape)

  saves : All (IsAnswerOf (ball_save b) moments (calls.Act acts.Save)) (of_save_act b acts.Save)
  saves =
      let Answer : List ℕ → Type 0 = IsAnswerOf (ball_save b) moments (calls.Act acts.Save) in
      let goes_on : List (List ℕ) = only_if (nat_lt 1 b.balls) ((save_list ∷ []) ∷ []) in
      let last : List (List ℕ) = (save_list ∷ disable_list ∷ []) ∷ [] in
      All-cons Answer [] (goes_on ++ last) (quiet (calls.Act acts.Save) tt refl)
      (All-append Answer goes_on last
      (all_if Answer (nat_lt 1 b.balls) ((save_list ∷ []) ∷ [])
      (λ several.
      let two_balls : 1 < b.balls = ltb-true 1 b.balls several in
      one Answer (save_list ∷ []) (from_active acts.Save (save_list ∷ []) 2 (omega (arith, two_balls)) refl)))
      (one Answer (save_list ∷ disable_list ∷ [])
      (from_active acts.Save (save_list ∷ disable_list ∷ []) 0 (omega arith) refl)))

  acts-come : (act : Act) → All (IsAnswerOf (ball_save b) moments (calls.Act act)) (of_save_act b act)
  acts-come acts.Enable =
      two (IsAnswerOf (ball_save b) moments (calls.Act acts.Enable)) [] (enable_list ∷ [])
      (from_active acts.Enable [] 0 (omega arith) refl)
      (answered (calls.Act acts.Enable) (enable_list ∷ []) first_state first_save-shape tt refl)
  acts-come acts.Disable = search (rules, quiet, from_active)
  acts-come acts.Save = saves
  acts-come act = one (IsAnswerOf (ball_save b) moments (calls.Act act)) [] (quiet (calls.Act act) tt refl)

  -- its time is over
  ends : All (IsAnswerOf (ball_save b) moments calls.Fire) (of_save b calls.Fire)
  ends =
      let Answer : List ℕ → Type 0 = IsAnswerOf (ball_save b) moments calls.Fire in
      let over : SaveState = record { active = true; balls_left = 0; due = Some 0 } in
      all_if Answer (nat_lt 0 b.active_time) ((disable_list ∷ []) ∷ [])
      (λ some. one Answer (disable_list ∷ [])
      (answered calls.Fire (disable_list ∷ []) over
      (record { balls_left = omega arith; due = λ is. (refl, ltb-true 0 b.active_time some) }) refl refl))

  save-comes : (call : Call) → All (IsAnswerOf (ball_save b) moments call) (of_save b call)
  save-comes call = search (rules, quiet, ends, acts-come)

  -- ---- the law

  pub ball_saves-lawful : IsLawful (ball_saves b) moments_of (IsWithinLimits (BallSave b)) (list_count (BallSave b))
  ball_saves-lawful =
      in_states-lawful states.BallSave save_state (ball_save b) moments (IsWithinLimits (BallSave b)) 3 (λ s. refl)
      (λ state s is. search rules) (λ s. refl)
      (record {
        first = first_save-shape;
        step = λ call now world s shape. save_step-shape call now s shape;
        answers = λ call now world s shape may. contains (save-in call now s shape may);
        comes = λ limits. save-comes;
        of_row = λ call. search rules;
        answers_of_row = λ call now world s. search rules;
        short = λ call. search (rules, All-nil, All-cons, All-append);
        silent_stop = refl;
        quiet = refl;
        stop = λ now world s shape. refl;
        arms = λ limits call now world s part due is. search (rules, none-some);
        fires = λ now world s shape. search rules;
        later_part = λ limits now world s shape. search rules;
        few = λ s part shape past. search rules;
      })
