-- The machine's state, and what each thing does to it.
use Rattle.std.specs.Prelude.{ℕ, zero, suc, ◌==◌, ℤ, Bool, true, false, not, ◌&&◌, if◌then◌else◌, find, Option, Some}
use Rattle.std.specs.{Prelude.{None, List, [], ◌∷◌, ◌++◌, length, map, slice_index_or, slice_set}, List.range_with_len}
use Rattle.plan_tables.specs.PlanView.{PlanView, act_of_listener, act_told, actions_at, binding_at, coil_numbers}
use Rattle.plan_tables.specs.PlanView.{feeders_of, first_trough, game_event, may_hold_ball_end, home_rows, list_of_row}
use Rattle.plan_tables.specs.PlanView.{listeners_of, mode_event, multiball_rows, no_row, posts_of, row_at, rows_of}
use Rattle.plan_tables.specs.PlanView.{save_rows, switch_at, target_of}
use Rattle.plan_tables.specs.declared.entries.{EventId.EventId, Listener.Listener}
use Rattle.plan_tables.specs.declared.entries.{SwitchId.SwitchId, BindingId.BindingId}
use Rattle.plan_tables.specs.declared.entries.{ListId.ListId, CoilId.CoilId, ModeId.ModeId, Binding.Binding}
use Rattle.plan_tables.specs.declared.entries.{Owner.Owner, Action.Action, VariableId.VariableId}
use Rattle.plan_tables.specs.declared.entries.Owner.TheVariants as owners
use Rattle.plan_tables.specs.declared.entries.Action.TheVariants.{Post, Pulse, Enable, Disable, Request, AddBalls}
use Rattle.plan_tables.specs.declared.entries.Action.TheVariants.{Change as ChangeVariable, Enter, Leave, Lose, Arrive}
use Rattle.machine_settings.specs.declared.words.VariableAction.{VariableAction}
use Rattle.plan_tables.specs.declared.entries.GameEvent.{GameEvent, TheVariants.{BallDrain, BallEnded}}
use Rattle.player_game.specs.Players.{PlayersState, no_players, is_met, changed_to}
use Rattle.player_game.specs.Players.{after_change as players_after_change, score_of}
use Rattle.player_game.specs.{Choices.is_drain, GameStep.{more_balls, held_if, release, ends_ball}}
use Rattle.player_game.specs.GameStep.{GameState, GameStep, no_game, game_step, is_none, is_ball_on, in_play, missing}
use Rattle.plan_tables.specs.declared.entries.Target.{Target, TheVariants.{Run, Start, Stop, Act}}
use Rattle.plan_tables.specs.declared.entries.ModeEvent.TheVariants.{WillStart, Stopping}
use Rattle.plan_tables.specs.declared.devices.{RowId.RowId, Act.TheVariants.{Save, End}}
use Rattle.plan_tables.specs.declared.devices.BallTarget.{BallTarget, TheVariants.{Playfield, Device}}
use Rattle.plan_tables.specs.declared.devices.Telling.{Telling, TheVariants.{Arrived, Wanted}}
use Rattle.device_objects.specs.declared.{device.Call.Call, state.{DeviceState.DeviceState, World.World}}
use Rattle.device_objects.specs.declared.device.Call.TheVariants as calls
use Rattle.device_objects.specs.declared.state.DeviceState.TheVariants as states
use Rattle.device_objects.specs.{BallDevice.is_away, DeviceStep.{device_step, first_state}}
use Rattle.ball_devices.specs.declared.booking.Origin.{Origin, TheVariants.{Awaited, Found, New}}
use Rattle.ball_devices.specs.Ledger.{Ledger, no_balls, counted_in, all_counted, all_in_transit, origin_of, total}
use Rattle.ball_devices.specs.Bookings.{LedgerCall, after_call, booking_of, can_book}
use Rattle.ball_devices.specs.Bookings as calls_of_ledger
use Rattle.switch_core.specs.declared.change.Change.{Change}
use Rattle.switch_core.specs.Switches.{SwitchesView, all_idle, after_change, reported_by_change, accept, report_change}
use Rattle.mode_stack.specs.declared.phase.{ModeState.ModeState, StopAnswer.StopAnswer}
use Rattle.mode_stack.specs.declared.phase.StopAnswer.TheVariants as answers
use Rattle.mode_stack.specs.{ModeStep.{starts, after_start, after_stop, stop_answer}, Modes.{needs_game, mode_state}}
use Rattle.mode_stack.specs.Modes as modes
use Rattle.written_machine.specs.declared.line.{BallCounts.BallCounts, Line.Line, Happening.Happening}
use Rattle.written_machine.specs.declared.line.Happening.TheVariants as lines
use Rattle.event_queue.specs.declared.queue.Posted.{Posted}
use Rattle.coil_guard.specs.declared.command.{Command.Command, Answer.{Answer, TheVariants.{Sent, Skipped}}}
use Rattle.coil_guard.specs.declared.command.Command.TheVariants as commands
use Rattle.coil_guard.specs.{declared.state.CoilState.CoilState, CoilStep.is_held_by, Coils.{all_off, coil_at}}
use Rattle.coil_guard.specs.Asked.{limits_of, after_asking, answer_asking}

pub record Machine : Type 0 where
  -- the moment of the latest stimulus, in milliseconds
  pub moment : ℕ
  -- how each switch is read, and its state
  pub switches : SwitchesView
  -- the state of each mode, by number
  pub modes : List ModeState
  -- the state of each device, by the number of its row
  pub devices : List DeviceState
  -- what the guard of the coils remembers of each coil, by number
  pub coils : List CoilState
  -- the ledger of balls
  pub ledger : Ledger
  -- the players of the game, and the game
  pub players : PlayersState
  pub game : GameState
  -- the events that wait, first posted first
  pub waiting : List Posted
  -- the lines since the latest stimulus began
  pub lines : List Line
  -- how many bookings were left out, as the ledger may not make them: in runs of accepted plans none (`GoodRun`)
  pub bookings_left_out : ℕ

-- At the beginning it is moment 0, all switches are inactive, all modes idle, all devices in their first states, all
-- coils off, no ball is known, there is no game, no mode holds the end of a ball, nothing waits, and no booking was
-- left out.
abbrev pub initial : PlanView → Machine
initial plan = record {
  moment = 0;
  switches = all_idle plan;
  modes = modes.all_idle (length plan.modes);
  devices = map (λ row. first_state row.settings) plan.rows;
  coils = all_off (limits_of plan);
  ledger = no_balls plan;
  players = no_players;
  game = no_game;
  waiting = [];
  lines = [];
  bookings_left_out = 0;
}

-- ---- one change each

abbrev pub write : Owner → Happening → Machine → Machine
write owner what s = record s { lines = s.lines ++ record { moment = s.moment; owner = owner; happening = what } ∷ [] }

abbrev pub post : Owner → EventId → Machine → Machine
post owner e s = record s { waiting = s.waiting ++ record { event = e; owner = owner } ∷ [] }

abbrev pub set_switches : SwitchesView → Machine → Machine
set_switches switches s = record s { switches = switches }

abbrev pub set_mode : ModeId → ModeState → Machine → Machine
set_mode m state s = record s { modes = slice_set s.modes m.0 state }

abbrev pub set_device : RowId → DeviceState → Machine → Machine
set_device r state s = record s { devices = slice_set s.devices r.0 state }

abbrev pub set_coils : List CoilState → Machine → Machine
set_coils coils s = record s { coils = coils }

abbrev pub set_ledger : Ledger → Machine → Machine
set_ledger ledger s = record s { ledger = ledger }

abbrev pub set_players : PlayersState → Machine → Machine
set_players players s = record s { players = players }

abbrev pub set_game : GameState → Machine → Machine
set_game game s = record s { game = game }

-- one after another
abbrev pub all_do : {X : Type 0} → (X → Machine → Machine) → List X → Machine → Machine
all_do does [] s = s
all_do does (x ∷ xs) s = all_do does xs (does x s)

-- ---- modes

-- whether a game goes on
abbrev pub has_game : Machine → Bool
has_game s = not (is_none s.game.phase)

-- the machine posts the event if this holds
abbrev pub post_if : Bool → EventId → Machine → Machine
post_if true e s = post owners.Machine e s
post_if false e s = s

-- A mode is told to start. If it starts, the event that says so is posted. If it may hold the end of the ball, it holds
-- that from now on.
abbrev pub start_mode : PlanView → ModeId → Machine → Machine
start_mode plan m s =
    let old = mode_state s.modes m in
    let needs = needs_game plan m in
    let begins = starts needs (has_game s) old.phase in
    post_if begins (mode_event plan m WillStart)
    (set_game (held_if (begins && may_hold_ball_end plan m) m s.game)
    (set_mode m (after_start needs (has_game s) old) s))

-- whether a stop posts an event: if it is neither kept nor ignored
abbrev pub is_post : StopAnswer → Bool
is_post answers.Post = true
is_post answers.Kept = false
is_post answers.Ignored = false

-- A mode is told to stop. If it is active, the event that says so is posted.
abbrev pub stop_mode : PlanView → ModeId → Machine → Machine
stop_mode plan m s =
    let old = mode_state s.modes m in
    post_if (is_post (stop_answer old.phase)) (mode_event plan m Stopping) (set_mode m (after_stop old) s)

-- a mode no longer holds the end of the ball
abbrev pub drop_hold : ModeId → Machine → Machine
drop_hold m s = set_game (release m s.game) s

-- A mode has stopped, and lets go of the end of the ball. If it was the last mode that held that, `ball_ended` is
-- posted.
abbrev pub release_ball_end : PlanView → ModeId → Machine → Machine
release_ball_end plan m s =
    if may_hold_ball_end plan m
    then post_if (ends_ball m s.game) (game_event plan BallEnded) (drop_hold m s)
    else s

-- ---- coils

-- what the line says of a command that was asked for: that it was sent, or skipped
abbrev pub answer_happening : Command → Answer → Happening
answer_happening request (Sent command) = lines.Coil command
answer_happening request Skipped = lines.Skip request

-- An owner asks for a command to a coil. It is sent or skipped, and either way there is a line.
abbrev pub ask_coil : Owner → Command → Machine → Machine
ask_coil owner command s =
    write owner (answer_happening command (answer_asking command owner s.moment s.coils))
    (set_coils (after_asking command owner s.moment s.coils) s)

-- a coil that the owner holds is disabled
abbrev pub release_coil : Owner → CoilId → Machine → Machine
release_coil owner coil s =
    if is_held_by owner (coil_at s.coils coil) then ask_coil owner (commands.Disable coil) s else s

-- so is each that the owner holds, in the order of their numbers
abbrev pub release_coils : PlanView → Owner → Machine → Machine
release_coils plan owner s = all_do (release_coil owner) (coil_numbers plan) s

-- ---- variables

-- A variable of the current player has changed to this value: its line is written, and its event posted.
abbrev pub tell_change : Owner → ℕ → VariableId → EventId → Option ℤ → Machine → Machine
tell_change owner player v e None s = s
tell_change owner player v e (Some value) s = post owner e (write owner (lines.Player player v value) s)

-- An action on a variable of the current player. If the variable does not change, nothing happens.
abbrev pub change_variable : PlanView → Owner → VariableId → VariableAction → ℤ → EventId → Machine → Machine
change_variable plan owner v action n e s =
    let value = changed_to plan v action n s.players in
    tell_change owner s.players.current v e value (set_players (players_after_change plan v value s.players) s)

-- ---- balls

-- what the ledger says of all balls
abbrev pub counts_of : Ledger → BallCounts
counts_of l = record { known = l.known; counted = all_counted l; transit = all_in_transit l; playfield = l.playfield }

-- a booking is left out
abbrev pub leave_out : Machine → Machine
leave_out s = record s { bookings_left_out = suc s.bookings_left_out }

-- The ledger books something, and there is a line. If the ledger may not book it, that is left out.
abbrev pub book : Owner → LedgerCall → Machine → Machine
book owner call s =
    if can_book call s.ledger
    then write owner (lines.Balls (booking_of call s.ledger) (counts_of (after_call call s.ledger)))
    (set_ledger (after_call call s.ledger) s)
    else leave_out s

-- `ball_drain` is posted if `drain` holds and the game is in phase Ball
abbrev pub drain_if : PlanView → Owner → Bool → Machine → Machine
drain_if plan owner drain s = if drain && is_ball_on s.game.phase then post owner (game_event plan BallDrain) s else s

-- An effect list tells another device in two cases: a ball has entered a device, which the first device that is Away to
-- it is told; and more balls are wanted, which the first trough is told. In accepted plans what that device answers
-- tells no further one (`GoodRun`). So lists nest one deep, and nothing here calls itself. `do_action`, `do_list`,
-- `do_answer` and `call_device` come twice. With `_by` at the end they have an argument `tell`, which tells the other
-- device. Without it, `tell` is `tell_first`. This calls the other device by `call_device_by` with `tell_nobody`.

-- After a ball has entered a device: if it was on its way there, the device that ejected it is told; else it may have
-- drained.
abbrev pub after_entry : PlanView → (Telling → Machine → Machine) → Owner → RowId → Bool → Origin → Machine → Machine
after_entry plan tell owner r drain Awaited s = tell (Arrived (Device r)) s
after_entry plan tell owner r drain Found s = drain_if plan owner drain s
after_entry plan tell owner r drain New s = drain_if plan owner drain s

-- a ball enters a device: that is booked, its event is posted, and then what follows from where it came from
abbrev pub enter_ball : PlanView → (Telling → Machine → Machine) → Owner → RowId → EventId → Bool → Machine → Machine
enter_ball plan tell owner r e drain s =
    after_entry plan tell owner r drain (origin_of r s.ledger) (post owner e (book owner (calls_of_ledger.Enter r) s))

-- so many more balls are wanted, if any
abbrev pub want_balls : (Telling → Machine → Machine) → ℕ → Machine → Machine
want_balls tell zero s = s
want_balls tell (suc n) s = tell (Wanted (suc n)) s

-- At least so many balls are in play from now on, while a ball is on. Those that were missing are wanted.
abbrev pub add_balls : (Telling → Machine → Machine) → ℕ → Machine → Machine
add_balls tell n s = want_balls tell (missing n s.game) (set_game (more_balls n s.game) s)

-- ---- effect lists

-- An action, where `tell` tells another device.
abbrev pub do_action_by : PlanView → (Telling → Machine → Machine) → Owner → Action → Machine → Machine
do_action_by plan tell owner (Post e) s = post owner e s
do_action_by plan tell owner (Pulse coil ms power) s = ask_coil owner (commands.Pulse coil ms power) s
do_action_by plan tell owner (Enable coil power) s = ask_coil owner (commands.Enable coil power) s
do_action_by plan tell owner (Disable coil) s = ask_coil owner (commands.Disable coil) s
do_action_by plan tell owner (ChangeVariable v action n e) s = change_variable plan owner v action n e s
do_action_by plan tell owner (Enter r e drain) s = enter_ball plan tell owner r e drain s
do_action_by plan tell owner (Leave r) s = book owner (calls_of_ledger.Leave r (target_of plan r)) s
do_action_by plan tell owner (Lose r) s = book owner (calls_of_ledger.Lose r) s
do_action_by plan tell owner (Arrive r) s = book owner (calls_of_ledger.Arrive (target_of plan r)) s
do_action_by plan tell owner (Request n) s = tell (Wanted n) s
do_action_by plan tell owner (AddBalls n) s = add_balls tell n s

-- the actions of a list
abbrev pub do_list_by : PlanView → (Telling → Machine → Machine) → Owner → ListId → Machine → Machine
do_list_by plan tell owner l s = all_do (do_action_by plan tell owner) (actions_at plan l) s

-- ---- devices

-- what devices know of the game
abbrev pub world_of : Machine → World
world_of s = record { games = s.game.begun; player = s.players.current; in_play = in_play s.game }

-- the state of a device by the number of its row
abbrev pub device_state : List DeviceState → RowId → DeviceState
device_state devices r = slice_index_or devices r.0 (first_state no_row.settings)

abbrev pub device_at : Machine → RowId → DeviceState
device_at s r = device_state s.devices r

-- what the call of a device leads to: its next state, and the effect lists that it answers
abbrev pub call_row : PlanView → Call → RowId → Machine → DeviceState × List ℕ
call_row plan call r s = device_step (row_at plan r).settings call s.moment (world_of s) (device_at s r)

-- effect lists of a row run, one after another, for the row's owner
abbrev pub do_answer_by : PlanView → (Telling → Machine → Machine) → RowId → List ℕ → Machine → Machine
do_answer_by plan tell r lists s = all_do (λ k. do_list_by plan tell (row_at plan r).owner (list_of_row plan r k)) lists
    s

-- A device is called: it goes on to its next state, and what it answers is done.
abbrev pub call_device_by : PlanView → (Telling → Machine → Machine) → Call → RowId → Machine → Machine
call_device_by plan tell call r s = do_answer_by plan tell r (call_row plan call r s).1
    (set_device r (call_row plan call r s).0 s)

-- ---- what ball devices are told

-- whether a device is Away: the ball that it has ejected is on its way
abbrev pub is_device_away : DeviceState → Bool
is_device_away (states.BallDevice s) = is_away s.eject
is_device_away _ = false

-- the first device that is Away to the target
abbrev pub first_away : PlanView → BallTarget → Machine → Option RowId
first_away plan target s = find (λ r. is_device_away (device_at s r)) (feeders_of plan target)

-- nobody is told: the lists of a device that is told something tell nobody
abbrev pub tell_nobody : Telling → Machine → Machine
tell_nobody telling s = s

-- Which device is told. Of a ball that has arrived it is the first that is Away to the target. Of balls that are wanted
-- it is the first trough.
abbrev pub told_device : PlanView → Telling → Machine → Option RowId
told_device plan (Arrived target) s = first_away plan target s
told_device plan (Wanted n) s = first_trough plan

-- a device is told, if there is one
abbrev pub tell_device : PlanView → Telling → Option RowId → Machine → Machine
tell_device plan telling None s = s
tell_device plan telling (Some r) s = call_device_by plan tell_nobody (calls.Act (act_told telling)) r s

-- The device that is to know it is told. If there is none, nothing happens.
abbrev pub tell_first : PlanView → Telling → Machine → Machine
tell_first plan telling s = tell_device plan telling (told_device plan telling s) s

abbrev pub do_action : PlanView → Owner → Action → Machine → Machine
do_action plan owner a s = do_action_by plan (tell_first plan) owner a s

abbrev pub do_list : PlanView → Owner → ListId → Machine → Machine
do_list plan owner l s = do_list_by plan (tell_first plan) owner l s

abbrev pub do_answer : PlanView → RowId → List ℕ → Machine → Machine
do_answer plan r lists s = do_answer_by plan (tell_first plan) r lists s

abbrev pub call_device : PlanView → Call → RowId → Machine → Machine
call_device plan call r s = call_device_by plan (tell_first plan) call r s

-- all devices of a mode are called, in the order of their rows
abbrev pub call_devices : PlanView → Call → ModeId → Machine → Machine
call_devices plan call m s = all_do (call_device plan call) (rows_of plan (owners.Mode m)) s

-- ---- targets

abbrev pub do_target : PlanView → Owner → Target → Machine → Machine
do_target plan owner (Run l) s = do_list plan owner l s
do_target plan owner (Start m) s = start_mode plan m s
do_target plan owner (Stop m) s = stop_mode plan m s
do_target plan owner (Act r act) s = call_device plan (calls.Act act) r s

-- a binding does nothing if its condition is not met
abbrev pub do_binding : PlanView → Binding → Machine → Machine
do_binding plan b s = if is_met plan s.players b.condition then do_target plan b.owner b.target s else s

-- the handler at a place runs; its condition is judged when its turn comes
abbrev pub do_handler : PlanView → BindingId → Machine → Machine
do_handler plan place s = do_binding plan (binding_at plan place) s

-- ---- the game

-- how many balls are at home
abbrev pub home_of : PlanView → Machine → ℕ
home_of plan s = total (map (counted_in s.ledger) (home_rows plan))

-- an event of the game is posted
abbrev pub post_game : PlanView → GameEvent → Machine → Machine
post_game plan which s = post owners.Machine (game_event plan which) s

-- the score of a player is told
abbrev pub write_final : PlanView → ℕ → Machine → Machine
write_final plan player s = write owners.Machine (lines.Final player (score_of plan s.players player)) s

-- so is that of each player, if this holds
abbrev pub write_finals : PlanView → Bool → Machine → Machine
write_finals plan true s = all_do (write_final plan) (range_with_len 1 (length s.players.players)) s
write_finals plan false s = s

-- if `asks` holds, one ball more is wanted
abbrev pub ask_ball : PlanView → Bool → Machine → Machine
ask_ball plan asks s = if asks then tell_first plan (Wanted 1) s else s

-- what an event of the game leads to is done
abbrev pub do_step : PlanView → GameStep → Machine → Machine
do_step plan step s =
    all_do (post_game plan) step.posts
    (ask_ball plan step.requests (write_finals plan step.finals (set_players step.players (set_game step.game s))))

-- the game goes on as its event says
abbrev pub step_game : PlanView → GameEvent → Machine → Machine
step_game plan which s = do_step plan (game_step plan.game plan which (home_of plan s) s.game s.players) s

-- whether a device is a ball save that is active
abbrev pub is_active_save : DeviceState → Bool
is_active_save (states.BallSave s) = s.active
is_active_save _ = false

-- while a ball is on, the first ball save that is active
abbrev pub first_active_save : PlanView → Machine → Option RowId
first_active_save plan s = if is_ball_on s.game.phase then find (λ r. is_active_save (device_at s r)) (save_rows plan)
    else None

-- if only one ball is left in play, the multiballs end
abbrev pub end_multiballs : PlanView → Machine → Machine
end_multiballs plan s = if in_play s.game == 1 then all_do (call_device plan (calls.Act End)) (multiball_rows plan) s
    else s

-- A ball has drained. A ball save saves it, if there is one. Otherwise one ball less is in play, and multiballs may
-- end.
abbrev pub drain_ball : PlanView → Option RowId → Machine → Machine
drain_ball plan None s = end_multiballs plan (step_game plan BallDrain s)
drain_ball plan (Some r) s = call_device plan (calls.Act Save) r s

-- What the machine itself does at an event of the game. A ball that drains may be saved.
abbrev pub do_game : PlanView → GameEvent → Machine → Machine
do_game plan which s = if is_drain which then drain_ball plan (first_active_save plan s) s else step_game plan which s

-- ---- switches

-- a device that listens to a switch is told that it is active, or inactive
abbrev pub tell_listener : PlanView → Bool → Listener → Machine → Machine
tell_listener plan active l s = call_device plan (calls.Act (act_of_listener active l)) l.row s

-- all that listen to a switch are told, in the order of their rows
abbrev pub tell_listeners : PlanView → Change → Machine → Machine
tell_listeners plan a s = all_do (tell_listener plan a.active) (listeners_of plan a.switch) s

-- A ball that presses a switch tagged `playfield_active` is on the playfield: the first device Away to it is told.
abbrev pub confirm_on_playfield : PlanView → Change → Machine → Machine
confirm_on_playfield plan a s = if a.active
    && (switch_at plan a.switch).confirms_playfield then tell_first plan (Arrived Playfield) s else s

-- A switch was accepted as active or inactive: its line is written, the devices that listen to it are told, and then
-- its events are posted. Before these a ball may have arrived on the playfield.
abbrev pub do_accepted : PlanView → Change → Machine → Machine
do_accepted plan a s =
    all_do (post owners.Machine) (posts_of plan a.switch a.active)
    (confirm_on_playfield plan a (tell_listeners plan a (write owners.Machine (lines.Switch a.switch a.active) s)))

abbrev pub do_if_accepted : PlanView → Option Change → Machine → Machine
do_if_accepted plan None s = s
do_if_accepted plan (Some a) s = do_accepted plan a s

-- The raw level of a switch changes, which a quick switch accepts at once.
abbrev pub change_switch : PlanView → ℕ → SwitchId → Bool → Machine → Machine
change_switch plan at switch raw s = do_if_accepted plan (reported_by_change switch raw at s.switches)
    (set_switches (after_change switch raw at s.switches) s)

-- The raw level of a switch, which was due, is accepted.
abbrev pub fire_switch : PlanView → SwitchId → Machine → Machine
fire_switch plan switch s = do_accepted plan (report_change (accept switch s.switches) switch)
    (set_switches (accept switch s.switches) s)
