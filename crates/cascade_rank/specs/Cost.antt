-- What a thing costs: the lines that it prints, the steps that it takes besides, and the weights of the events that it
-- posts, added up or compared. A step is a handler that is looked at, or a call of a device.
use Rattle.std.specs.Prelude.{ℕ, ◌+◌, max, Bool, true, false, ◌&&◌, ◌||◌, ◌==◌, if◌then◌else◌, Option, None, Some, List}
use Rattle.std.specs.{Prelude.{[], ◌∷◌, length, map}, List.range_with_len}
use Rattle.plan_tables.specs.PlanView.{PlanView, coils_enabled, act_of_listener, act_told, feeders_of, first_trough}
use Rattle.plan_tables.specs.PlanView.{may_hold_ball_end, listeners_of, posts_of, actions_at, bound_to, list_of_row}
use Rattle.plan_tables.specs.PlanView.{game_event, mode_event, multiball_rows, row_at, row_numbers, rows_of, save_rows}
use Rattle.plan_tables.specs.{PlanView.{switch_at, work_of}, declared.entries.{Listener.Listener, SwitchId.SwitchId}}
use Rattle.plan_tables.specs.declared.entries.{EventId.EventId, ModeId.ModeId, Binding.Binding, ListId.ListId}
use Rattle.plan_tables.specs.declared.entries.Action.{Action, TheVariants.{Lose, Arrive, Request, AddBalls}}
use Rattle.plan_tables.specs.declared.entries.Action.TheVariants.{Post, Pulse, Enable, Disable, Change, Enter, Leave}
use Rattle.plan_tables.specs.declared.entries.Target.{Target, TheVariants.{Run, Start, Stop, Act}}
use Rattle.plan_tables.specs.declared.entries.ModeEvent.TheVariants.{WillStart, Starting, Started, Stopping, Stopped}
use Rattle.plan_tables.specs.declared.entries.Work.{Work, TheVariants.{Nothing, Mode, Game}}
use Rattle.plan_tables.specs.declared.entries.GameEvent.{GameEvent, TheVariants.{BallDrain, BallEnded}}
use Rattle.plan_tables.specs.declared.devices.{Act.TheVariants.{Save, End}, RowId.RowId}
use Rattle.plan_tables.specs.declared.devices.Telling.{Telling, TheVariants.{Arrived, Wanted}}
use Rattle.plan_tables.specs.declared.devices.BallTarget.{BallTarget, TheVariants.{Playfield, Device}}
use Rattle.player_game.specs.{Players.most_players, Choices.{asks_for_ball, choices, is_drain, tells_scores}}
use Rattle.plan_tables.specs.declared.entries.Owner.TheVariants as owners
use Rattle.device_objects.specs.{declared.device.Call.Call, DeviceStep.outcomes}
use Rattle.device_objects.specs.declared.device.Call.TheVariants as calls

pub data Cost : Type 0 where
  Lines : (n : ℕ) → Cost
  Step : Cost
  Weight : (e : EventId) → Cost
  Both : (a b : Cost) → Cost
  Greater : (a b : Cost) → Cost

-- the price of a cost if a line is 1, a step k, and the event e weighs w e
abbrev pub price_at : ℕ → (EventId → ℕ) → Cost → ℕ
price_at k w (Lines n) = n
price_at k w Step = k
price_at k w (Weight e) = w e
price_at k w (Both a b) = price_at k w a + price_at k w b
price_at k w (Greater a b) = max (price_at k w a) (price_at k w b)

-- its price in lines: a step is free
abbrev pub price : (EventId → ℕ) → Cost → ℕ
price w c = price_at 0 w c

-- whether the weight of e is in the cost
abbrev pub mentions : EventId → Cost → Bool
mentions e (Lines n) = false
mentions e Step = false
mentions e (Weight f) = e.0 == f.0
mentions e (Both a b) = mentions e a || mentions e b
mentions e (Greater a b) = mentions e a || mentions e b

-- whether p holds of each event whose weight is in the cost
abbrev pub all_mentioned : (EventId → Bool) → Cost → Bool
all_mentioned p (Lines n) = true
all_mentioned p Step = true
all_mentioned p (Weight e) = p e
all_mentioned p (Both a b) = all_mentioned p a && all_mentioned p b
all_mentioned p (Greater a b) = all_mentioned p a && all_mentioned p b

-- these, one after another
abbrev pub each_of : {X : Type 0} → (X → Cost) → List X → Cost
each_of cost [] = Lines 0
each_of cost (x ∷ xs) = Both (cost x) (each_of cost xs)

-- the greatest of these costs
abbrev pub dearest_of : {X : Type 0} → (X → Cost) → List X → Cost
dearest_of cost [] = Lines 0
dearest_of cost (x ∷ xs) = Greater (cost x) (dearest_of cost xs)

-- a post costs the weight of its event
abbrev pub cost_of_post : EventId → Cost
cost_of_post e = Weight e

-- a ball that may have drained
abbrev pub cost_of_drain : PlanView → Bool → Cost
cost_of_drain plan drain = if drain then cost_of_post (game_event plan BallDrain) else Lines 0

-- An action of a coil costs its line, whether its command is sent or skipped. One of a variable costs its line and the
-- post that follows it, whether the variable changes or not. A booking costs its line. A ball that enters a device
-- costs also the post of its event, and the dearer of the two that may follow: that it drains, or that the device that
-- ejected it is told. To tell a device costs what `tell_cost` gives, and so do actions that ask for more balls.
abbrev pub cost_of_action_by : PlanView → (Telling → Cost) → Action → Cost
cost_of_action_by plan tell_cost (Post e) = cost_of_post e
cost_of_action_by plan tell_cost (Pulse coil ms power) = Lines 1
cost_of_action_by plan tell_cost (Enable coil power) = Lines 1
cost_of_action_by plan tell_cost (Disable coil) = Lines 1
cost_of_action_by plan tell_cost (Change v action n e) = Both (Lines 1) (cost_of_post e)
cost_of_action_by plan tell_cost (Enter r e drain) =
    Both (Lines 1) (Both (cost_of_post e) (Greater (cost_of_drain plan drain) (tell_cost (Arrived (Device r)))))
cost_of_action_by plan tell_cost (Leave r) = Lines 1
cost_of_action_by plan tell_cost (Lose r) = Lines 1
cost_of_action_by plan tell_cost (Arrive r) = Lines 1
cost_of_action_by plan tell_cost (Request n) = tell_cost (Wanted n)
cost_of_action_by plan tell_cost (AddBalls n) = tell_cost (Wanted n)

-- the actions of an effect list
abbrev pub cost_of_list_by : PlanView → (Telling → Cost) → ListId → Cost
cost_of_list_by plan tell_cost l = each_of (cost_of_action_by plan tell_cost) (actions_at plan l)

-- the effect lists of a row that a device answers, one after another
abbrev pub cost_of_answer_by : PlanView → (Telling → Cost) → RowId → List ℕ → Cost
cost_of_answer_by plan tell_cost r lists = each_of (λ k. cost_of_list_by plan tell_cost (list_of_row plan r k)) lists

-- a call of a device costs a step, and the dearest of what it can answer, whatever the device's state
abbrev pub cost_of_call_by : PlanView → (Telling → Cost) → RowId → Call → Cost
cost_of_call_by plan tell_cost r call = Both Step
    (dearest_of (cost_of_answer_by plan tell_cost r) (outcomes (row_at plan r).settings call))

-- the lists of a device that is told something tell nobody
abbrev pub cost_of_nobody : Telling → Cost
cost_of_nobody telling = Lines 0

-- a device that is told something
abbrev pub cost_of_told : PlanView → Telling → RowId → Cost
cost_of_told plan telling r = cost_of_call_by plan cost_of_nobody r (calls.Act (act_told telling))

-- a ball has arrived at the target: the dearest of the devices that may be told
abbrev pub cost_of_arrival : PlanView → BallTarget → Cost
cost_of_arrival plan target = dearest_of (cost_of_told plan (Arrived target)) (feeders_of plan target)

-- a trough is told that so many more balls are wanted, if there is one
abbrev pub cost_of_trough : PlanView → ℕ → Option RowId → Cost
cost_of_trough plan n None = Lines 0
cost_of_trough plan n (Some r) = cost_of_told plan (Wanted n) r

-- what it costs to tell a device
abbrev pub cost_of_telling : PlanView → Telling → Cost
cost_of_telling plan (Arrived target) = cost_of_arrival plan target
cost_of_telling plan (Wanted n) = cost_of_trough plan n (first_trough plan)

abbrev pub cost_of_list : PlanView → ListId → Cost
cost_of_list plan l = cost_of_list_by plan (cost_of_telling plan) l

abbrev pub cost_of_call : PlanView → RowId → Call → Cost
cost_of_call plan r call = cost_of_call_by plan (cost_of_telling plan) r call

abbrev pub cost_of_target : PlanView → Target → Cost
cost_of_target plan (Run l) = cost_of_list plan l
cost_of_target plan (Start m) = cost_of_post (mode_event plan m WillStart)
cost_of_target plan (Stop m) = cost_of_post (mode_event plan m Stopping)
cost_of_target plan (Act r act) = cost_of_call plan r (calls.Act act)

-- what a binding costs: a step, and its target. No owner, no priority and no condition is looked at.
abbrev pub cost_of_binding : PlanView → Binding → Cost
cost_of_binding plan b = Both Step (cost_of_target plan b.target)

-- `ball_ended`, if the mode may have held the end of the ball
abbrev pub led_by_stopped : PlanView → ModeId → Option EventId
led_by_stopped plan m = if may_hold_ball_end plan m then Some (game_event plan BallEnded) else None

-- The event that the machine itself posts as its work at an event, if it posts one. At `started` it is that of a stop
-- that was kept. At `stopped` it is `ball_ended`, if the mode may hold the end of the ball.
abbrev pub led_by : PlanView → Work → Option EventId
led_by plan Nothing = None
led_by plan (Mode m WillStart) = Some (mode_event plan m Starting)
led_by plan (Mode m Starting) = Some (mode_event plan m Started)
led_by plan (Mode m Started) = Some (mode_event plan m Stopping)
led_by plan (Mode m Stopping) = Some (mode_event plan m Stopped)
led_by plan (Mode m Stopped) = led_by_stopped plan m
led_by plan (Game which) = None

abbrev pub cost_if_led : Option EventId → Cost
cost_if_led None = Lines 0
cost_if_led (Some e) = cost_of_post e

-- a call of each device of a mode
abbrev pub cost_of_devices : PlanView → Call → ModeId → Cost
cost_of_devices plan call m = each_of (λ r. cost_of_call plan r call) (rows_of plan (owners.Mode m))

-- the starts of a mode's devices, at its event `started`
abbrev pub cost_of_starts : PlanView → Work → Cost
cost_of_starts plan Nothing = Lines 0
cost_of_starts plan (Mode m WillStart) = Lines 0
cost_of_starts plan (Mode m Starting) = Lines 0
cost_of_starts plan (Mode m Started) = cost_of_devices plan calls.ModeStart m
cost_of_starts plan (Mode m Stopping) = Lines 0
cost_of_starts plan (Mode m Stopped) = Lines 0
cost_of_starts plan (Game which) = Lines 0

-- the stops of a mode's devices, at its event `stopping`
abbrev pub cost_of_stops : PlanView → Work → Cost
cost_of_stops plan Nothing = Lines 0
cost_of_stops plan (Mode m WillStart) = Lines 0
cost_of_stops plan (Mode m Starting) = Lines 0
cost_of_stops plan (Mode m Started) = Lines 0
cost_of_stops plan (Mode m Stopping) = cost_of_devices plan calls.ModeStop m
cost_of_stops plan (Mode m Stopped) = Lines 0
cost_of_stops plan (Game which) = Lines 0

-- a line for each coil that the mode may hold, at its event `stopping`
abbrev pub cost_of_releases : PlanView → Work → Cost
cost_of_releases plan Nothing = Lines 0
cost_of_releases plan (Mode m WillStart) = Lines 0
cost_of_releases plan (Mode m Starting) = Lines 0
cost_of_releases plan (Mode m Started) = Lines 0
cost_of_releases plan (Mode m Stopping) = Lines (length (coils_enabled plan (owners.Mode m)))
cost_of_releases plan (Mode m Stopped) = Lines 0
cost_of_releases plan (Game which) = Lines 0

-- what an event of the game posts, by one of the ways that it can go
abbrev pub cost_of_choice : PlanView → List GameEvent → Cost
cost_of_choice plan posts = each_of (λ which. cost_of_post (game_event plan which)) posts

-- a line for each player there can be, if all scores are told
abbrev pub cost_of_scores : PlanView → GameEvent → Cost
cost_of_scores plan which = Lines (if tells_scores which then most_players plan.game else 0)

-- one ball more is wanted, if a ball is asked for
abbrev pub cost_of_request : PlanView → GameEvent → Cost
cost_of_request plan which = if asks_for_ball which then cost_of_telling plan (Wanted 1) else Lines 0

-- a ball has drained: the dearer of the dearest ball save that may save it, and all multiballs that may end
abbrev pub cost_of_drained_ball : PlanView → GameEvent → Cost
cost_of_drained_ball plan which =
    if is_drain which
    then Greater (dearest_of (λ r. cost_of_call plan r (calls.Act Save)) (save_rows plan))
    (each_of (λ r. cost_of_call plan r (calls.Act End)) (multiball_rows plan))
    else Lines 0

-- the dearest way that an event of the game can go
abbrev pub cost_of_game : PlanView → Work → Cost
cost_of_game plan Nothing = Lines 0
cost_of_game plan (Mode m which) = Lines 0
cost_of_game plan (Game which) =
    Both (cost_of_scores plan which)
    (Both (cost_of_request plan which) (Greater (cost_of_drained_ball plan which)
    (dearest_of (cost_of_choice plan) (choices which))))

-- what the machine itself does at an event, before and after its handlers
abbrev pub cost_of_work : PlanView → EventId → Cost
cost_of_work plan e =
    Both (cost_of_starts plan (work_of plan e))
    (Both (cost_of_stops plan (work_of plan e))
    (Both (cost_of_releases plan (work_of plan e))
    (Both (cost_if_led (led_by plan (work_of plan e))) (cost_of_game plan (work_of plan e)))))

-- an event costs its line, all that is bound to it, and the machine's work
abbrev pub cost_of_event : PlanView → EventId → Cost
cost_of_event plan e = Both (Lines 1) (Both (each_of (cost_of_binding plan) (bound_to plan e)) (cost_of_work plan e))

-- the act of a device that listens to a switch
abbrev pub cost_of_listener : PlanView → Bool → Listener → Cost
cost_of_listener plan active l = cost_of_call plan l.row (calls.Act (act_of_listener active l))

-- a ball that presses the switch may have arrived on the playfield
abbrev pub cost_of_playfield_switch : PlanView → SwitchId → Bool → Cost
cost_of_playfield_switch plan switch active =
    if active && (switch_at plan switch).confirms_playfield then cost_of_telling plan (Arrived Playfield) else Lines 0

-- To accept a switch as active or inactive costs its line, the acts of the devices that listen to it, that a ball
-- arrives on the playfield, and its posts.
abbrev pub cost_of_acceptance : PlanView → SwitchId → Bool → Cost
cost_of_acceptance plan switch active =
    Both (Lines 1)
    (Both (each_of (cost_of_listener plan active) (listeners_of plan switch))
    (Both (cost_of_playfield_switch plan switch active) (each_of cost_of_post (posts_of plan switch active))))

-- the dearer of the two
abbrev pub cost_of_switch : PlanView → SwitchId → Cost
cost_of_switch plan switch = Greater (cost_of_acceptance plan switch true) (cost_of_acceptance plan switch false)

-- the switches of a plan, by number
abbrev pub switches_of : PlanView → List SwitchId
switches_of plan = map (λ n. record { 0 = n }) (range_with_len 0 (length plan.switches))

-- the greatest cost of a stimulus: of the acceptance of a switch, or of the alarm of a device
abbrev pub cost_of_stimuli : PlanView → Cost
cost_of_stimuli plan = Greater (dearest_of (cost_of_switch plan) (switches_of plan))
    (dearest_of (λ r. cost_of_call plan r calls.Fire) (row_numbers plan))
