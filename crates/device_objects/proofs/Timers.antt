-- Timers are lawful.
use Rattle.std.proofs.Common.{rules, ◌≡◌, ℕ, ◌<◌, ◌≤◌, true, ◌&&◌, None, Some, List, [], ◌∷◌, if◌then◌else◌, is_some}
use Rattle.std.{proofs.Common.{refl, ap, ◌∙◌, ℤ, pos, ◌+ℤ◌, ◌-ℤ◌}, specs.List.All}
use Rattle.std.proofs.lemmas.{Bool.and_parts, List.Elements.{All-nil, All-cons, All-append}, Option.none-some}
use Rattle.plan_tables.specs.declared.devices.{Act.Act, Settings.TheVariants.Timer}
use Rattle.plan_tables.specs.Devices.{IsWithinLimits, list_count}
use Rattle.plan_tables.specs.declared.devices.Act.TheVariants as acts
use Rattle.machine_settings.specs.{declared.settings.TimerSettings.TimerSettings, Limits.IsEndWithin, Ends.is_at_end}
use Rattle.machine_settings.specs.declared.words.Direction.{Direction, TheVariants.{Up, Down}}
use Rattle.device_objects.specs.declared.{device.Call.Call, state.TimerState.TimerState}
use Rattle.device_objects.specs.{Values.{clamp_value, move_value}, Timer.{timer_step, timers}}
use Rattle.device_objects.specs.{Outcomes.only_if, Kinds.moments_of, Laws.{MayComeAt, IsAnswerOf, IsLawful}}
use Rattle.device_objects.specs.Timer.{act_step, after_change, complete_list, complete_timer, first_state, halt}
use Rattle.device_objects.specs.Timer.{is_running, moments, of_change, of_timer, of_timer_act, pause_list, run}
use Rattle.device_objects.specs.Timer.{start_list, stop_list, tick_list, timer, timer_completing, timer_state}
use Rattle.device_objects.proofs.Among.{In, here, there, contains, if_holds, by, either, of_among, second, one, two}
use Rattle.device_objects.proofs.{Among.{all_if, if_true, if_false}, Calm.someone, InStates.in_states-lawful}
use Rattle.device_objects.proofs.Ends.{at_end-some, ends_at, goes_on_at}
use Rattle.device_objects.specs.declared.device.Call.TheVariants as calls
use Rattle.device_objects.specs.declared.state.DeviceState.TheVariants as states

module _ (t : TimerSettings) where
  -- ---- answers

  completed-is : (now : ℕ) (s : TimerState) → (complete_timer t now s).1 ≡ timer_completing t
  completed-is now s = second t.restart (run t now (first_state t), complete_list ∷ start_list ∷ [])
      (halt s, complete_list ∷ [])

  changed-in : (now : ℕ) (s : TimerState) → In (after_change t now s).1
      ([] ∷ only_if (is_at_end t.direction t.end s.value) (timer_completing t ∷ []))
  changed-in now s = either (is_running s && is_at_end t.direction t.end s.value) (complete_timer t now s) (s, [])
      (λ is. there (if_holds (is_at_end t.direction t.end s.value) (and_parts (is_running s) _ is).1
      (by (completed-is now s) here)))
      (λ not. here)

  moves-in : (now : ℕ) (s : TimerState) → In (after_change t now s).1 (of_change t)
  moves-in now s = either (is_running s && is_at_end t.direction t.end s.value) (complete_timer t now s) (s, [])
      (λ is. there (if_holds (is_some t.end) (at_end-some t.direction t.end s.value (and_parts (is_running s) _ is).1)
      (by (completed-is now s) here)))
      (λ not. here)

  act-in : (act : Act) (now : ℕ) (s : TimerState) → In (act_step t act now s).1 (of_timer_act t act)
  act-in acts.Start now s = either (is_running s) (s, []) (run t now s, start_list ∷ []) (λ is. here)
      (λ not. there here)
  act-in acts.Stop now s = either (is_running s) (halt s, stop_list ∷ []) (s, []) (λ is. there here) (λ not. here)
  act-in acts.Pause now s = either (is_running s) (halt s, pause_list ∷ []) (s, []) (λ is. there here) (λ not. here)
  act-in (acts.Add n) now s = moves-in now (record s { value = clamp_value (s.value +ℤ n) })
  act-in (acts.Subtract n) now s = moves-in now (record s { value = clamp_value (s.value -ℤ n) })
  act-in (acts.Jump n) now s = changed-in now (record s { value = clamp_value n })
  act-in _ now s = here

  step-in : (call : Call) (now : ℕ) (s : TimerState) → In (timer_step t call now s).1 (of_timer t call)
  step-in calls.ModeStart now s =
      let anew : TimerState = record s { value = t.start } in
      by (second t.start_running (run t now anew, start_list ∷ []) (anew, [])) here
  step-in calls.ModeStop now s = here
  step-in calls.Fire now s = search (rules, there, if_holds, by, here, at_end-some, completed-is)
  step-in (calls.Act act) now s = act-in act now s

  -- ---- each comes about

  abbrev Answer : Call → List ℕ → Type 0
  Answer call lists = IsAnswerOf (timer t) moments call lists

  answered : (call : Call) (lists : List ℕ) (s : TimerState) → MayComeAt call (moments s)
      → (timer_step t call 0 s).1 ≡ lists
      → Answer call lists
  answered call lists s may answers =
      record { now = 0; world = someone; state = s; shape = tt; may_come = may; answer = answers }

  -- a timer that does not run, and one that does
  abbrev at_rest : ℤ → TimerState
  at_rest value = record { value = value; due = None }

  abbrev under_way : ℤ → TimerState
  under_way value = record { value = value; due = Some 0 }

  ticks : IsEndWithin t.end → All (Answer calls.Fire) (of_timer t calls.Fire)
  ticks within =
      let past : ℤ → TimerState = λ value. under_way (move_value t.direction (pos 1) value) in
      let going : Answer calls.Fire (tick_list ∷ []) =
      (let from = goes_on_at t.direction t.end (pos 1) within in
      answered calls.Fire (tick_list ∷ []) (under_way from.0) refl
      (ap (λ lists. tick_list ∷ lists) (if_false (is_at_end t.direction t.end (past from.0).value)
      (complete_timer t 0 (past from.0)) (run t 0 (past from.0), []) from.1))) in
      let done : is_some t.end ≡ true → Answer calls.Fire (tick_list ∷ timer_completing t) =
      (λ some. let from = ends_at t.direction t.direction t.end (pos 1) within some in
      answered calls.Fire (tick_list ∷ timer_completing t) (under_way from.0) refl
      (ap (λ lists. tick_list ∷ lists) (if_true (is_at_end t.direction t.end (past from.0).value)
      (complete_timer t 0 (past from.0)) (run t 0 (past from.0), []) from.1 ∙ completed-is 0 (past from.0)))) in
      All-cons (Answer calls.Fire) (tick_list ∷ []) (only_if (is_some t.end) ((tick_list ∷ timer_completing t) ∷ []))
      going
      (all_if (Answer calls.Fire) (is_some t.end) ((tick_list ∷ timer_completing t) ∷ [])
      (λ some. one (Answer calls.Fire) (tick_list ∷ timer_completing t) (done some)))

  -- a timer that runs completes if the value that the act gives it is at the end
  completes : (act : Act) (value after : ℤ) → act_step t act 0 (under_way value) ≡ after_change t 0 (under_way after)
      → is_at_end t.direction t.end after ≡ true
      → Answer (calls.Act act) (timer_completing t)
  completes act value after is ends = answered (calls.Act act) (timer_completing t) (under_way value) tt
      (ap (λ answer. answer.1) is ∙ if_true (is_at_end t.direction t.end after) (complete_timer t 0 (under_way after))
      (under_way after, []) ends ∙ completed-is 0 (under_way after))

  changes : (act : Act) (go : Direction) (n : ℤ) → IsEndWithin t.end
      → ((value : ℤ) → act_step t act 0 (under_way value) ≡ after_change t 0 (under_way (move_value go n value)))
      → Answer (calls.Act act) [] → All (Answer (calls.Act act)) (of_change t)
  changes act go n within moves rests =
      All-cons (Answer (calls.Act act)) [] (only_if (is_some t.end) (timer_completing t ∷ [])) rests
      (all_if (Answer (calls.Act act)) (is_some t.end) (timer_completing t ∷ [])
      (λ some. one (Answer (calls.Act act)) (timer_completing t)
      (let from = ends_at go t.direction t.end n within some
      in completes act from.0 (move_value go n from.0) (moves from.0) from.1)))

  -- what an act answers at rest, and under way
  rests : (act : Act) (lists : List ℕ) → (act_step t act 0 (at_rest (pos 0))).1 ≡ lists → Answer (calls.Act act) lists
  rests act lists answers = answered (calls.Act act) lists (at_rest (pos 0)) tt answers

  goes : (act : Act) (lists : List ℕ) → (act_step t act 0 (under_way (pos 0))).1 ≡ lists → Answer (calls.Act act) lists
  goes act lists answers = answered (calls.Act act) lists (under_way (pos 0)) tt answers

  acts-come : (act : Act) → IsEndWithin t.end → All (Answer (calls.Act act)) (of_timer_act t act)
  acts-come acts.Start within = two (Answer (calls.Act acts.Start)) [] (start_list ∷ []) (goes acts.Start [] refl)
      (rests acts.Start (start_list ∷ []) refl)
  acts-come acts.Stop within = two (Answer (calls.Act acts.Stop)) [] (stop_list ∷ []) (rests acts.Stop [] refl)
      (goes acts.Stop (stop_list ∷ []) refl)
  acts-come acts.Pause within = two (Answer (calls.Act acts.Pause)) [] (pause_list ∷ []) (rests acts.Pause [] refl)
      (goes acts.Pause (pause_list ∷ []) refl)
  acts-come acts.Restart within = one (Answer (calls.Act acts.Restart)) (start_list ∷ [])
      (rests acts.Restart (start_list ∷ []) refl)
  acts-come (acts.Add n) within = changes (acts.Add n) Up n within (λ value. refl) (rests (acts.Add n) [] refl)
  acts-come (acts.Subtract n) within = changes (acts.Subtract n) Down n within (λ value. refl)
      (rests (acts.Subtract n) [] refl)
  acts-come (acts.Jump n) within =
      All-cons (Answer (calls.Act (acts.Jump n))) []
      (only_if (is_at_end t.direction t.end (clamp_value n)) (timer_completing t ∷ []))
      (rests (acts.Jump n) [] refl)
      (all_if (Answer (calls.Act (acts.Jump n))) (is_at_end t.direction t.end (clamp_value n)) (timer_completing t ∷ [])
      (λ ends. one (Answer (calls.Act (acts.Jump n))) (timer_completing t)
      (completes (acts.Jump n) (pos 0) (clamp_value n) refl ends)))
  acts-come act within = one (Answer (calls.Act act)) [] (rests act [] refl)

  come : IsWithinLimits (Timer t) → (call : Call) → All (Answer call) (of_timer t call)
  come limits calls.ModeStart =
      let anew : TimerState = record (at_rest (pos 0)) { value = t.start } in
      one (Answer calls.ModeStart) (if t.start_running then start_list ∷ [] else [])
      (answered calls.ModeStart (if t.start_running then start_list ∷ [] else []) (at_rest (pos 0)) tt
      (second t.start_running (run t 0 anew, start_list ∷ []) (anew, [])))
  come limits calls.ModeStop = one (Answer calls.ModeStop) [] (answered calls.ModeStop [] (at_rest (pos 0)) tt refl)
  come limits calls.Fire = ticks limits.1
  come limits (calls.Act act) = acts-come act limits.1

  pub timers-lawful : IsLawful (timers t) moments_of (IsWithinLimits (Timer t)) (list_count (Timer t))
  timers-lawful = in_states-lawful states.Timer timer_state (timer t) moments (IsWithinLimits (Timer t)) 5 (λ s. refl)
      (λ state s is. search rules) (λ s. refl)
      (record {
        first = tt;
        step = λ call now world s shape. tt;
        answers = λ call now world s shape may. contains (step-in call now s);
        comes = come;
        of_row = λ call. search rules;
        answers_of_row = λ call now world s. of_among (All (λ list. list < 5)) (search rules) (step-in call now s);
        short = λ call. search (rules, All-nil, All-cons, All-append);
        silent_stop = refl;
        quiet = refl;
        stop = λ now world s shape. refl;
        arms = λ limits call now world s part due is. let some : 1 ≤ t.interval = limits.0 in search (rules, none-some);
        fires = λ now world s shape. search rules;
        later_part = λ limits now world s shape. let some : 1 ≤ t.interval = limits.0 in search rules;
        few = λ s part shape past. search rules;
      })
