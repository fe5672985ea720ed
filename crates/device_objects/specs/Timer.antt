-- A timer.
use Rattle.std.specs.Prelude.{ℕ, ◌+◌, pos, ◌+ℤ◌, ◌-ℤ◌, Bool, ◌&&◌, is_some, if◌then◌else◌, Option, None, Some, List, []}
use Rattle.std.specs.Prelude.{◌∷◌}
use Rattle.plan_tables.specs.declared.devices.Act.{Act}
use Rattle.plan_tables.specs.declared.devices.Act.TheVariants as acts
use Rattle.machine_settings.specs.{declared.settings.TimerSettings.TimerSettings, Ends.is_at_end}
use Rattle.device_objects.specs.declared.{device.Call.Call, state.{TimerState.TimerState, DeviceState.DeviceState}}
use Rattle.device_objects.specs.{Values.{clamp_value, move_value}, Outcomes.{only_if, silent}}
use Rattle.device_objects.specs.declared.device.Call.TheVariants as calls
use Rattle.device_objects.specs.declared.state.DeviceState.TheVariants as states
use Rattle.device_objects.specs.KindModel.{Kind, Moments, in_states, of_one_part}

-- the lists of a timer; `timer_lists` of plan_parts says what each of them does
abbrev pub start_list : ℕ
start_list = 0

abbrev pub stop_list : ℕ
stop_list = 1

abbrev pub pause_list : ℕ
pause_list = 2

abbrev pub tick_list : ℕ
tick_list = 3

abbrev pub complete_list : ℕ
complete_list = 4

-- at first a timer does not run
abbrev pub first_state : TimerSettings → TimerState
first_state t = record { value = t.start; due = None }

abbrev pub is_running : TimerState → Bool
is_running s = is_some s.due

-- it runs from now on
abbrev pub run : TimerSettings → ℕ → TimerState → TimerState
run t now s = record s { due = Some (now + t.interval) }

-- it does not run any more
abbrev pub halt : TimerState → TimerState
halt s = record s { due = None }

-- a timer that completes
abbrev pub complete_timer : TimerSettings → ℕ → TimerState → TimerState × List ℕ
complete_timer t now s =
    if t.restart then (run t now (first_state t), complete_list ∷ start_list ∷ [])
    else (halt s, complete_list ∷ [])

-- The value was changed: a timer that runs completes if it is at its end now. Only a timer that goes up can have no
-- end; one that goes down ends at 0 if its settings say nothing else.
abbrev pub after_change : TimerSettings → ℕ → TimerState → TimerState × List ℕ
after_change t now s = if is_running s && is_at_end t.direction t.end s.value then complete_timer t now s else (s, [])

-- a list more, before the others
abbrev pub before : ℕ → TimerState × List ℕ → TimerState × List ℕ
before list answer = (answer.0, list ∷ answer.1)

-- the value has gone on by one
abbrev pub tick_on : TimerSettings → ℕ → TimerState → TimerState × List ℕ
tick_on t now s = before tick_list (if is_at_end t.direction t.end s.value then complete_timer t now s else
    (run t now s, []))

abbrev pub act_step : TimerSettings → Act → ℕ → TimerState → TimerState × List ℕ
act_step t acts.Start now s = if is_running s then (s, []) else (run t now s, start_list ∷ [])
act_step t acts.Stop now s = if is_running s then (halt s, stop_list ∷ []) else (s, [])
act_step t acts.Pause now s = if is_running s then (halt s, pause_list ∷ []) else (s, [])
act_step t acts.Reset now s = (record s { value = t.start }, [])
act_step t acts.Restart now s = (run t now (first_state t), start_list ∷ [])
act_step t (acts.Add n) now s = after_change t now (record s { value = clamp_value (s.value +ℤ n) })
act_step t (acts.Subtract n) now s = after_change t now (record s { value = clamp_value (s.value -ℤ n) })
act_step t (acts.Jump n) now s = after_change t now (record s { value = clamp_value n })
act_step t _ now s = (s, [])

abbrev pub timer_step : TimerSettings → Call → ℕ → TimerState → TimerState × List ℕ
timer_step t calls.ModeStart now s =
    let anew = record s { value = t.start } in
    if t.start_running then (run t now anew, start_list ∷ []) else (anew, [])
timer_step t calls.ModeStop now s = (halt s, [])
timer_step t calls.Fire now s = tick_on t now (record s { value = move_value t.direction (pos 1) s.value })
timer_step t (calls.Act act) now s = act_step t act now s

-- ---- what a timer answers

-- the lists of a completion
abbrev pub timer_completing : TimerSettings → List ℕ
timer_completing t = if t.restart then complete_list ∷ start_list ∷ [] else complete_list ∷ []

-- the value moves by any number
abbrev pub of_change : TimerSettings → List (List ℕ)
of_change t = [] ∷ only_if (is_some t.end) (timer_completing t ∷ [])

abbrev pub of_timer_act : TimerSettings → Act → List (List ℕ)
of_timer_act t acts.Start = [] ∷ (start_list ∷ []) ∷ []
of_timer_act t acts.Stop = [] ∷ (stop_list ∷ []) ∷ []
of_timer_act t acts.Pause = [] ∷ (pause_list ∷ []) ∷ []
of_timer_act t acts.Restart = (start_list ∷ []) ∷ []
of_timer_act t (acts.Add n) = of_change t
of_timer_act t (acts.Subtract n) = of_change t
of_timer_act t (acts.Jump n) = [] ∷ only_if (is_at_end t.direction t.end (clamp_value n)) (timer_completing t ∷ [])
of_timer_act t _ = silent

abbrev pub of_timer : TimerSettings → Call → List (List ℕ)
of_timer t calls.ModeStart = (if t.start_running then start_list ∷ [] else []) ∷ []
of_timer t calls.ModeStop = silent
of_timer t calls.Fire = (tick_list ∷ []) ∷ only_if (is_some t.end) ((tick_list ∷ timer_completing t) ∷ [])
of_timer t (calls.Act act) = of_timer_act t act

-- a timer has just one part
abbrev pub moments : TimerState → Moments
moments s = of_one_part s.due

abbrev pub timer : TimerSettings → Kind TimerState
timer t = record {
  first = first_state t;
  IsShaped = λ s. Unit {0};
  step = λ call now world. timer_step t call now;
  outcomes = of_timer t;
  fire_part = λ k now. timer_step t calls.Fire now;
}

-- what a state holds, if it is one of a timer
abbrev pub timer_state : DeviceState → Option TimerState
timer_state (states.Timer s) = Some s
timer_state _ = None

abbrev pub timers : TimerSettings → Kind DeviceState
timers t = in_states states.Timer timer_state (timer t)
