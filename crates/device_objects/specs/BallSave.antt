-- A ball save. While it is active, a ball that drains can be saved: the first trough, if there is one, is asked for
-- another.
use Rattle.std.specs.Prelude.{◌≡◌, ℕ, ◌+◌, ◌-◌, ◌==◌, ◌<◌, ◌≤◌, nat_lt, true, false, if◌then◌else◌, Option, None, Some}
use Rattle.std.specs.Prelude.{IsSome, List, [], ◌∷◌, ◌++◌}
use Rattle.plan_tables.specs.declared.devices.Act.{Act}
use Rattle.plan_tables.specs.declared.devices.Act.TheVariants as acts
use Rattle.machine_settings.specs.declared.settings.SaveSettings.{SaveSettings}
use Rattle.device_objects.specs.declared.{device.Call.Call, state.{SaveState.SaveState, DeviceState.DeviceState}}
use Rattle.device_objects.specs.declared.device.Call.TheVariants as calls
use Rattle.device_objects.specs.declared.state.DeviceState.TheVariants as states
use Rattle.device_objects.specs.{KindModel.{Kind, Moments, in_states, of_one_part}, Outcomes.{only_if, silent}}

-- the lists of a ball save
abbrev pub enable_list : ℕ
enable_list = 0

abbrev pub disable_list : ℕ
disable_list = 1

-- it saves a ball
abbrev pub save_list : ℕ
save_list = 2

-- at first a ball save is not active; nor is it when its mode has started or stopped
abbrev pub first_state : SaveState
first_state = record { active = false; balls_left = 0; due = None }

-- the moment at which it ends by itself, if it is enabled now
abbrev pub end_of : SaveSettings → ℕ → Option ℕ
end_of b now = if b.active_time == 0 then None else Some (now + b.active_time)

-- it is active from now on, and has all its balls left to save
abbrev pub enable : SaveSettings → ℕ → SaveState → SaveState × List ℕ
enable b now s =
    if s.active then (s, []) else (record { active = true; balls_left = b.balls; due = end_of b now }, enable_list ∷ [])

-- it is active no more
abbrev pub disable : SaveState → SaveState × List ℕ
disable s = if s.active then (record s { active = false; due = None }, disable_list ∷ []) else (s, [])

-- it has saved a ball: after the last one it is active no more
abbrev pub save_ball : SaveState → SaveState × List ℕ
save_ball s =
    if s.balls_left == 0
    then (record s { active = false; due = None }, save_list ∷ disable_list ∷ [])
    else (s, save_list ∷ [])

-- it saves a ball, if it is active
abbrev pub save : SaveState → SaveState × List ℕ
save s = if s.active then save_ball (record s { balls_left = s.balls_left - 1 }) else (s, [])

abbrev pub act_step : SaveSettings → Act → ℕ → SaveState → SaveState × List ℕ
act_step b acts.Enable now s = enable b now s
act_step b acts.Disable now s = disable s
act_step b acts.Save now s = save s
act_step b _ now s = (s, [])

abbrev pub save_step : SaveSettings → Call → ℕ → SaveState → SaveState × List ℕ
save_step b calls.ModeStart now s = (first_state, [])
save_step b calls.ModeStop now s = (first_state, [])
save_step b calls.Fire now s = disable s
save_step b (calls.Act act) now s = act_step b act now s

-- ---- what it answers, and its shape

-- A ball save that saves only one ball is disabled after it. One that saves more may have some left.
abbrev pub of_save_act : SaveSettings → Act → List (List ℕ)
of_save_act b acts.Enable = [] ∷ (enable_list ∷ []) ∷ []
of_save_act b acts.Disable = [] ∷ (disable_list ∷ []) ∷ []
of_save_act b acts.Save =
    [] ∷ only_if (nat_lt 1 b.balls) ((save_list ∷ []) ∷ []) ++ (save_list ∷ disable_list ∷ []) ∷ []
of_save_act b _ = silent

-- one that has no end is never due
abbrev pub of_save : SaveSettings → Call → List (List ℕ)
of_save b calls.ModeStart = silent
of_save b calls.ModeStop = silent
of_save b calls.Fire = only_if (nat_lt 0 b.active_time) ((disable_list ∷ []) ∷ [])
of_save b (calls.Act act) = of_save_act b act

-- the state of a ball save: at most as many balls are left to save as its settings say, and a moment is due only while
-- it is active and has an `active_time`
pub record HasSaveShape (b : SaveSettings) (s : SaveState) : Type 0 where
  pub balls_left : s.balls_left ≤ b.balls
  pub due : IsSome s.due → (s.active ≡ true) × (0 < b.active_time)

-- a ball save has just one part
abbrev pub moments : SaveState → Moments
moments s = of_one_part s.due

abbrev pub ball_save : SaveSettings → Kind SaveState
ball_save b = record {
  first = first_state;
  IsShaped = HasSaveShape b;
  step = λ call now world. save_step b call now;
  outcomes = of_save b;
  fire_part = λ k now. save_step b calls.Fire now;
}

-- what a state holds, if it is one of a ball save
abbrev pub save_state : DeviceState → Option SaveState
save_state (states.BallSave s) = Some s
save_state _ = None

abbrev pub ball_saves : SaveSettings → Kind DeviceState
ball_saves b = in_states states.BallSave save_state (ball_save b)
