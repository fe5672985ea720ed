-- A ball device, such as a trough or a plunger. A ball lies at each ball switch that is counted. The device ejects one
-- ball at a time.
use Rattle.std.specs.Prelude.{◌≡◌, ℕ, suc, ◌+◌, ◌-◌, ◌≤◌, nat_lt, min, max, Bool, true, false, not, ◌&&◌, ◌||◌, is_some}
use Rattle.std.specs.Prelude.{if◌then◌else◌, Option, None, Some, unwrap_or, List, [], ◌∷◌, ◌++◌, length, map}
use Rattle.std.specs.{Prelude.{option_map, replicate, drop, slice_index_or, slice_set}, List.{All, list_any}}
use Rattle.plan_tables.specs.{Due.sooner, declared.devices.{Act.Act, BallTarget.BallTarget, BallSettings.BallSettings}}
use Rattle.plan_tables.specs.declared.devices.Act.TheVariants as acts
use Rattle.plan_tables.specs.declared.devices.BallTarget.TheVariants as targets
use Rattle.device_objects.specs.declared.{device.Call.Call, state.{Attempt.Attempt, BallState.BallState}}
use Rattle.device_objects.specs.declared.state.Eject.{Eject, TheVariants.{Idle, Pulsing, Away}}
use Rattle.device_objects.specs.declared.device.Call.TheVariants as calls
use Rattle.device_objects.specs.declared.state.{BallSwitch.BallSwitch, DeviceState.DeviceState}
use Rattle.device_objects.specs.declared.state.DeviceState.TheVariants as states
use Rattle.device_objects.specs.{KindModel.{Kind, Moments, in_states}, Outcomes.{only_if, silent}}

-- ---- the state

-- a ball switch at which no ball counts, and nothing is due
abbrev pub empty : BallSwitch
empty = record { counted = false; due = None }

-- at first no ball counts, nothing is due, nothing is ejected, and no ball is wanted
abbrev pub first_state : BallState
first_state = record { switches = replicate 16 empty; eject = Idle; wanted = 0 }

-- the ball switch of a number
abbrev pub switch_at : BallState → ℕ → BallSwitch
switch_at s i = slice_index_or s.switches i empty

abbrev pub set_switch : ℕ → BallSwitch → BallState → BallState
set_switch i b s = record s { switches = slice_set s.switches i b }

-- whether a ball lies in it
abbrev pub has_ball : BallState → Bool
has_ball s = list_any (λ b. b.counted) s.switches

-- ---- its lists

-- a ball has entered it
abbrev pub entry_list : ℕ
entry_list = 0

-- it attempts to eject a ball
abbrev pub attempt_list : ℕ
attempt_list = 1

-- the ball that it ejects has left
abbrev pub exit_list : ℕ
exit_list = 2

-- a ball has left that was not being ejected
abbrev pub loss_list : ℕ
loss_list = 3

-- the ball that it has ejected counts as being where it should be
abbrev pub success_list : ℕ
success_list = 4

-- a ball that was on its way is on the playfield
abbrev pub arrival_list : ℕ
arrival_list = 5

-- an attempt has failed
abbrev pub failure_list : ℕ
failure_list = 6

-- ---- it begins to eject a ball

-- it attempts to eject a ball, for the time that its settings give
abbrev pub attempt : BallSettings → ℕ → ℕ → BallState → BallState × List ℕ
attempt d number now s =
    (record s { eject = Pulsing (record { number = number; timeout = now + d.ejects.timeout }) }, attempt_list ∷ [])

abbrev pub is_idle : Eject → Bool
is_idle Idle = true
is_idle (Pulsing a) = false
is_idle (Away a) = false

-- whether it can begin to eject a ball: it ejects none, has one, and has a coil; a trough has also been asked for one
abbrev pub can_begin : BallSettings → BallState → Bool
can_begin d s = is_idle s.eject && (has_ball s && (d.has_coil && (not d.trough || nat_lt 0 s.wanted)))

-- it begins to eject a ball, if it can
abbrev pub begin : BallSettings → ℕ → BallState → BallState × List ℕ
begin d now s = if can_begin d s then attempt d 1 now s else (s, [])

-- ---- the level of a ball switch

-- for how long a ball switch has to be active, or inactive, before that counts
abbrev pub delay : BallSettings → Bool → ℕ
delay d active = if active then d.ejects.entrance_delay else d.ejects.exit_delay

-- whether the level of a ball switch differs from what is counted
abbrev pub counts_otherwise : Bool → BallSwitch → Bool
counts_otherwise active b = if active then not b.counted else b.counted

-- a ball switch has become active, or inactive
abbrev pub note_level : BallSettings → Bool → ℕ → BallSwitch → BallSwitch
note_level d active now b = record b { due = if counts_otherwise active b then Some (now + delay d active) else None }

abbrev pub switch_level : BallSettings → ℕ → Bool → ℕ → BallState → BallState
switch_level d i active now s = if nat_lt i d.switches then set_switch i (note_level d active now (switch_at s i)) s
    else s

-- ---- what is due

-- of these ball switches, numbered from i on, the first that is due: its moment and its number
abbrev pub first_due_from : ℕ → List BallSwitch → Option (ℕ × ℕ)
first_due_from i [] = None
first_due_from i (b ∷ bs) = sooner (option_map (λ due. (due, i)) b.due) (first_due_from (suc i) bs)

abbrev pub first_due : BallState → Option (ℕ × ℕ)
first_due s = first_due_from 0 s.switches

-- the moment at which the attempt is over, if there is one
abbrev pub timeout_of : Eject → Option ℕ
timeout_of Idle = None
timeout_of (Pulsing a) = Some a.timeout
timeout_of (Away a) = Some a.timeout

-- the first of two moments
abbrev pub earlier : Option ℕ → Option ℕ → Option ℕ
earlier None b = b
earlier (Some a) None = Some a
earlier (Some a) (Some b) = Some (min a b)

-- the moment at which the device is due
abbrev pub due_of : BallState → Option ℕ
due_of s = earlier (option_map (λ a. a.0) (first_due s)) (timeout_of s.eject)

-- When its parts are due: each ball switch by its number, and after the last of the 16 its attempt.
abbrev pub parts : List BallSwitch → Option ℕ → List (Option ℕ)
parts switches timeout = map (λ b. b.due) switches ++ timeout ∷ []

abbrev pub part_due : BallState → ℕ → Option ℕ
part_due s k = slice_index_or (parts s.switches (timeout_of s.eject)) k None

-- ---- a ball switch counts

-- an answer after these lists
abbrev pub after : List ℕ → BallState × List ℕ → BallState × List ℕ
after lists answer = (answer.0, lists ++ answer.1)

-- the opposite counts from now on
abbrev pub turn_over : BallSwitch → BallSwitch
turn_over b = record { counted = not b.counted; due = None }

-- a ball counts no more: the one that is ejected has left, or one is lost
abbrev pub lose_sight : BallSettings → ℕ → Eject → BallState → BallState × List ℕ
lose_sight d now Idle s =
    if d.ejects.mechanical
    then (record s { eject = Away (record { number = 1; timeout = now + d.ejects.timeout }) }, exit_list ∷ [])
    else (s, loss_list ∷ [])
lose_sight d now (Pulsing a) s = (record s { eject = Away a }, exit_list ∷ [])
lose_sight d now (Away a) s = (s, loss_list ∷ [])

-- the level of a ball switch is counted from now on: a ball has entered, or is gone
abbrev pub count : BallSettings → ℕ → ℕ → BallState → BallState × List ℕ
count d now i s =
    let t = set_switch i (turn_over (switch_at s i)) s in
    if (switch_at s i).counted then lose_sight d now s.eject t else after (entry_list ∷ []) (begin d now t)

-- ---- an attempt is over

-- whether a device may attempt once more after an attempt of this number
abbrev pub may_try_again : Option ℕ → ℕ → Bool
may_try_again None number = true
may_try_again (Some most) number = nat_lt number most

-- the greatest number of an attempt, if there is no limit
abbrev pub greatest_attempt : ℕ
greatest_attempt = 1000

-- the number of the attempt after the one of this number: without a limit it stays at the greatest once it is there
abbrev pub next_number : Option ℕ → ℕ → ℕ
next_number None number = min (suc number) greatest_attempt
next_number (Some most) number = suc number

-- an attempt is over before the ball has left: it tries again, or gives up
abbrev pub stuck : BallSettings → ℕ → Attempt → BallState → BallState × List ℕ
stuck d now a s =
    if may_try_again d.ejects.max_attempts a.number
    then after (failure_list ∷ []) (attempt d (next_number d.ejects.max_attempts a.number) now s)
    else (record s { eject = Idle; wanted = 0 }, failure_list ∷ [])

-- the eject is over: a trough is to eject one ball fewer
abbrev pub end_eject : BallState → BallState
end_eject s = record s { eject = Idle; wanted = s.wanted - 1 }

-- The ball on its way did not arrive in time: it counts as being on the playfield.
abbrev pub overdue : BallTarget → List ℕ
overdue targets.Playfield = arrival_list ∷ success_list ∷ []
overdue (targets.Device r) = arrival_list ∷ failure_list ∷ []

abbrev pub time_out : BallSettings → ℕ → Eject → BallState → BallState × List ℕ
time_out d now Idle s = (s, [])
time_out d now (Pulsing a) s = stuck d now a s
time_out d now (Away a) s = after (overdue d.target) (begin d now (end_eject s))

-- ---- what is due first is done

-- whether the time of the attempt is over before any ball switch is due
abbrev pub is_timeout_first : Option (ℕ × ℕ) → Option ℕ → Bool
is_timeout_first first None = false
is_timeout_first None (Some timeout) = true
is_timeout_first (Some a) (Some timeout) = nat_lt timeout a.0

-- a ball switch that is due counts
abbrev pub count_due : BallSettings → ℕ → Option (ℕ × ℕ) → BallState → BallState × List ℕ
count_due d now None s = (s, [])
count_due d now (Some a) s = count d now a.1 s

-- what is due first is done; if both are due at one moment, a ball switch before the attempt's end
abbrev pub fire : BallSettings → ℕ → BallState → BallState × List ℕ
fire d now s =
    if is_timeout_first (first_due s) (timeout_of s.eject)
    then time_out d now s.eject s
    else count_due d now (first_due s) s

-- what a part does when its moment has come: a ball switch counts, or the attempt is over
abbrev pub fire_part : BallSettings → ℕ → ℕ → BallState → BallState × List ℕ
fire_part d k now s = if nat_lt k (length s.switches) then count d now k s else time_out d now s.eject s

-- ---- the ball on its way is where it should be

-- whether the ball that it ejects has left, and has not arrived yet
abbrev pub is_away : Eject → Bool
is_away Idle = false
is_away (Pulsing a) = false
is_away (Away a) = true

-- the ball on its way is where it should be: in the target device, or on the playfield
abbrev pub confirmation : BallTarget → List ℕ
confirmation targets.Playfield = arrival_list ∷ success_list ∷ []
confirmation (targets.Device r) = success_list ∷ []

abbrev pub confirm : BallSettings → ℕ → Eject → BallState → BallState × List ℕ
confirm d now Idle s = (s, [])
confirm d now (Pulsing a) s = (s, [])
confirm d now (Away a) s = after (confirmation d.target) (begin d now (end_eject s))

-- ---- steps

-- A trough is to eject this many more balls, as far as 255 allows.
abbrev pub request : BallSettings → ℕ → ℕ → BallState → BallState × List ℕ
request d n now s = if d.trough then begin d now (record s { wanted = min (s.wanted + n) 255 }) else (s, [])

abbrev pub act_step : BallSettings → Act → ℕ → BallState → BallState × List ℕ
act_step d (acts.SwitchOn i) now s = (switch_level d i true now s, [])
act_step d (acts.SwitchOff i) now s = (switch_level d i false now s, [])
act_step d acts.Confirm now s = confirm d now s.eject s
act_step d (acts.Request n) now s = request d n now s
act_step d _ now s = (s, [])

-- a ball switch at which nothing is due any more
abbrev pub not_due : BallSwitch → BallSwitch
not_due b = record b { due = None }

-- it is taken out of the machine: nothing is due any more, nothing is ejected, and no ball is wanted
abbrev pub halt : BallState → BallState
halt s = record { switches = map not_due s.switches; eject = Idle; wanted = 0 }

abbrev pub ball_step : BallSettings → Call → ℕ → BallState → BallState × List ℕ
ball_step d calls.ModeStart now s = (s, [])
ball_step d calls.ModeStop now s = (halt s, [])
ball_step d calls.Fire now s = fire d now s
ball_step d (calls.Act act) now s = act_step d act now s

-- ---- what it answers

-- whether a ball device can begin to eject a ball in some state
abbrev pub may_begin : BallSettings → Bool
may_begin d = d.has_coil && nat_lt 0 d.switches

-- whether a ball can be on its way from it in some state
abbrev pub may_eject : BallSettings → Bool
may_eject d = d.has_coil || d.ejects.mechanical

-- these lists, alone or followed by a new attempt
abbrev pub ending : BallSettings → List ℕ → List (List ℕ)
ending d lists = lists ∷ only_if (may_begin d) ((lists ++ attempt_list ∷ []) ∷ [])

-- a ball switch counts: a ball has entered, has left, or is lost
abbrev pub of_count : BallSettings → List (List ℕ)
of_count d = ending d (entry_list ∷ []) ++ only_if (may_eject d) ((exit_list ∷ []) ∷ []) ++ (loss_list ∷ []) ∷ []

-- An attempt has failed. Another one follows, unless only one is allowed. If there is a limit, it may also be the last.
abbrev pub of_attempt : BallSettings → List (List ℕ)
of_attempt d =
    only_if (may_try_again d.ejects.max_attempts 1) ((failure_list ∷ attempt_list ∷ []) ∷ [])
    ++ only_if (is_some d.ejects.max_attempts) ((failure_list ∷ []) ∷ [])

abbrev pub of_ball_fire : BallSettings → List (List ℕ)
of_ball_fire d =
    only_if (nat_lt 0 d.switches) (of_count d)
    ++ only_if d.has_coil (of_attempt d)
    ++ only_if (may_eject d) (ending d (overdue d.target))

abbrev pub of_ball_act : BallSettings → Act → List (List ℕ)
of_ball_act d acts.Confirm = [] ∷ only_if (may_eject d) (ending d (confirmation d.target))
of_ball_act d (acts.Request n) = [] ∷ only_if (d.trough && may_begin d) ((attempt_list ∷ []) ∷ [])
of_ball_act d _ = silent

abbrev pub of_ball_device : BallSettings → Call → List (List ℕ)
of_ball_device d calls.ModeStart = silent
of_ball_device d calls.ModeStop = silent
of_ball_device d calls.Fire = of_ball_fire d
of_ball_device d (calls.Act act) = of_ball_act d act

-- ---- its shape

-- The number of an attempt is at least 1, and at most the limit, or the greatest number if there is none. A limit of 0,
-- which no plan has, allows 1.
abbrev pub IsAttempt : BallSettings → ℕ → Type 0
IsAttempt d number = (1 ≤ number) × (number ≤ max 1 (unwrap_or d.ejects.max_attempts greatest_attempt))

-- Only a device with a coil can be Pulsing. Only one with a coil, or with a mechanical eject, can be Away.
abbrev pub IsEjectOf : BallSettings → Eject → Type 0
IsEjectOf d Idle = Unit {0}
IsEjectOf d (Pulsing a) = (d.has_coil ≡ true) × IsAttempt d a.number
IsEjectOf d (Away a) = (may_eject d ≡ true) × IsAttempt d a.number

-- the state of a ball device: 16 ball switches, of which those that it does not have are empty
pub record HasBallShape (d : BallSettings) (s : BallState) : Type 0 where
  pub switches : length s.switches ≡ 16
  pub rest_is_empty : All (λ b. b ≡ empty) (drop d.switches s.switches)
  pub eject : IsEjectOf d s.eject
  pub wanted : s.wanted ≤ 255

-- ---- ball devices

abbrev pub moments : BallState → Moments
moments s = record { due = due_of s; part = part_due s }

abbrev pub ball_device : BallSettings → Kind BallState
ball_device d = record {
  first = first_state;
  IsShaped = HasBallShape d;
  step = λ call now world. ball_step d call now;
  outcomes = of_ball_device d;
  fire_part = fire_part d;
}

-- what a state holds, if it is one of a ball device
abbrev pub ball_state : DeviceState → Option BallState
ball_state (states.BallDevice s) = Some s
ball_state _ = None

abbrev pub ball_devices : BallSettings → Kind DeviceState
ball_devices d = in_states states.BallDevice ball_state (ball_device d)
