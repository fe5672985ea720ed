-- What each part of the machine costs in the state in which it is done: its lines, its steps and the events that it
-- posts. A line or a post counts even if it may be left out; a step counts only if it is taken.
use Rattle.std.specs.Prelude.{ℕ, zero, suc, ◌==◌, ◌&&◌, if◌then◌else◌, Bool, true, false, Option, Some, None, List, []}
use Rattle.std.specs.{Prelude.{◌∷◌, length}, List.range_with_len}
use Rattle.plan_tables.specs.PlanView.{PlanView, act_of_listener, coil_numbers, listeners_of, switch_at, posts_of}
use Rattle.plan_tables.specs.PlanView.{actions_at, binding_at, list_of_row, multiball_rows, row_at, rows_of, act_told}
use Rattle.plan_tables.specs.declared.entries.{Listener.Listener, BindingId.BindingId}
use Rattle.plan_tables.specs.declared.entries.{ModeId.ModeId, ListId.ListId, CoilId.CoilId, Owner.Owner}
use Rattle.plan_tables.specs.declared.entries.Action.{Action, TheVariants.Request}
use Rattle.plan_tables.specs.declared.entries.GameEvent.{GameEvent, TheVariants.BallDrain}
use Rattle.plan_tables.specs.declared.entries.ModeEvent.TheVariants.{WillStart, Starting, Started, Stopping, Stopped}
use Rattle.plan_tables.specs.declared.entries.Work.{Work, TheVariants.{Nothing, Mode, Game}}
use Rattle.plan_tables.specs.declared.entries.Owner.TheVariants as owners
use Rattle.plan_tables.specs.declared.entries.Action.TheVariants.{Post, Change as ChangeVariable, Enter, AddBalls}
use Rattle.plan_tables.specs.declared.entries.Target.{Target, TheVariants.{Run, Start, Stop, Act}}
use Rattle.plan_tables.specs.declared.devices.{RowId.RowId, Act.TheVariants.{End, Save}}
use Rattle.plan_tables.specs.declared.devices.BallTarget.TheVariants.{Playfield, Device}
use Rattle.plan_tables.specs.declared.devices.Telling.{Telling, TheVariants.{Arrived, Wanted}}
use Rattle.player_game.specs.{GameStep.{in_play, missing, more_balls}, Choices.is_drain, Players.is_met}
use Rattle.ball_devices.specs.{declared.booking.Origin.{Origin, TheVariants.{Awaited, Found, New}}, Ledger.origin_of}
use Rattle.ball_devices.specs.Bookings as calls_of_ledger
use Rattle.coil_guard.specs.{CoilStep.is_held_by, Coils.coil_at}
use Rattle.device_objects.specs.declared.device.Call.{Call}
use Rattle.device_objects.specs.declared.device.Call.TheVariants as calls
use Rattle.switch_core.specs.declared.change.Change.{Change}
use Rattle.switch_core.specs.Switches.{after_change, reported_by_change, accept, report_change}
use Rattle.mode_stack.specs.{ModeStep.entered, Modes.mode_state}
use Rattle.cascade_rank.specs.Cost.{Cost, Lines, Step, Both, each_of, cost_of_post, cost_of_drain, cost_of_target}
use Rattle.cascade_rank.specs.Cost.{led_by, cost_if_led, cost_of_choice}
use Rattle.written_machine.specs.declared.line.Happening.TheVariants as lines
use Rattle.written_machine.specs.Machine.{Machine, write, post, release_coil, set_switches, set_mode, set_device}
use Rattle.written_machine.specs.Machine.{write_finals, book, do_action_by, do_list_by, tell_nobody, told_device}
use Rattle.written_machine.specs.Machine.{tell_first, call_row, call_device, call_devices}
use Rattle.written_machine.specs.Machine.{tell_listener, tell_listeners, step_game, first_active_save, set_game}
use Rattle.written_machine.specs.Run.{switch, device, Stimulus, SwitchChange, Alarm, Wait, arrive}
use Rattle.written_machine.specs.{StimulusCost.cost_of_stimulus, Moves.{Stepped, step_now, do_move}}

-- what these cost one after another, if each finds the state that the one before it leaves
abbrev pub each_now : {X : Type 0} → (X → Machine → Machine) → (X → Machine → Cost) → List X → Machine → Cost
each_now f cost [] s = Lines 0
each_now f cost (x ∷ xs) s = Both (cost x s) (each_now f cost xs (f x s))

module _ (plan : PlanView) where
  -- if `tell` costs what `tell_now` says
  module _ (tell : Telling → Machine → Machine) (tell_now : Telling → Machine → Cost) where
    abbrev pub wanted_now : ℕ → Machine → Cost
    wanted_now zero s = Lines 0
    wanted_now (suc n) s = tell_now (Wanted (suc n)) s

    -- a ball that has entered a device
    abbrev pub entry_now : RowId → Bool → Origin → Machine → Cost
    entry_now r drain Awaited s = tell_now (Arrived (Device r)) s
    entry_now r drain Found s = cost_of_drain plan drain
    entry_now r drain New s = cost_of_drain plan drain

    abbrev pub action_now_by : Owner → Action → Machine → Cost
    action_now_by owner (Post e) s = cost_of_post e
    action_now_by owner (ChangeVariable v action n e) s = Both (Lines 1) (cost_of_post e)
    action_now_by owner (Enter r e drain) s =
        Both (Lines 1) (Both (cost_of_post e)
        (entry_now r drain (origin_of r s.ledger) (post owner e (book owner (calls_of_ledger.Enter r) s))))
    action_now_by owner (Request n) s = tell_now (Wanted n) s
    action_now_by owner (AddBalls n) s = Both (Lines 0)
        (wanted_now (missing n s.game) (set_game (more_balls n s.game) s))
    action_now_by owner _ s = Lines 1

    abbrev pub list_now_by : Owner → ListId → Machine → Cost
    list_now_by owner l s = each_now (do_action_by plan tell owner) (action_now_by owner) (actions_at plan l) s

    abbrev pub answer_now_by : RowId → List ℕ → Machine → Cost
    answer_now_by r lists s =
        each_now (λ k. do_list_by plan tell (row_at plan r).owner (list_of_row plan r k))
        (λ k. list_now_by (row_at plan r).owner (list_of_row plan r k)) lists s

    -- a device that is called costs a step, and what it answers
    abbrev pub call_now_by : Call → RowId → Machine → Cost
    call_now_by call r s = Both Step (answer_now_by r (call_row plan call r s).1
        (set_device r (call_row plan call r s).0 s))

  abbrev pub nobody_now : Telling → Machine → Cost
  nobody_now telling s = Lines 0

  -- a device that is told something
  abbrev pub told_now : Telling → Option RowId → Machine → Cost
  told_now telling None s = Lines 0
  told_now telling (Some r) s = call_now_by tell_nobody nobody_now (calls.Act (act_told telling)) r s

  abbrev pub telling_now : Telling → Machine → Cost
  telling_now telling s = told_now telling (told_device plan telling s) s

  abbrev pub list_now : Owner → ListId → Machine → Cost
  list_now = list_now_by (tell_first plan) telling_now

  abbrev pub answer_now : RowId → List ℕ → Machine → Cost
  answer_now = answer_now_by (tell_first plan) telling_now

  abbrev pub call_now : Call → RowId → Machine → Cost
  call_now = call_now_by (tell_first plan) telling_now

  abbrev pub target_now : Owner → Target → Machine → Cost
  target_now owner (Run l) s = list_now owner l s
  target_now owner (Start m) s = cost_of_target plan (Start m)
  target_now owner (Stop m) s = cost_of_target plan (Stop m)
  target_now owner (Act r act) s = call_now (calls.Act act) r s

  -- a handler costs a step, and what it does if its condition is met
  abbrev pub handler_now : BindingId → Machine → Cost
  handler_now place s =
      Both Step (if is_met plan s.players (binding_at plan place).condition then target_now
      (binding_at plan place).owner (binding_at plan place).target s else Lines 0)

  -- all devices of a mode
  abbrev pub calls_now : Call → ModeId → Machine → Cost
  calls_now call m s = each_now (call_device plan call) (call_now call) (rows_of plan (owners.Mode m)) s

  -- the devices that listen to a switch, and its acceptance
  abbrev pub listener_now : Bool → Listener → Machine → Cost
  listener_now active l s = call_now (calls.Act (act_of_listener active l)) l.row s

  abbrev pub listeners_now : Change → Machine → Cost
  listeners_now a s = each_now (tell_listener plan a.active) (listener_now a.active) (listeners_of plan a.switch) s

  -- a ball that may have arrived on the playfield
  abbrev pub playfield_now : Change → Machine → Cost
  playfield_now a s = if a.active && (switch_at plan a.switch).confirms_playfield then telling_now (Arrived Playfield) s
      else Lines 0

  abbrev pub accepted_now : Change → Machine → Cost
  accepted_now a s =
      let begun = write owners.Machine (lines.Switch a.switch a.active) s in
      Both (Lines 1)
      (Both (listeners_now a begun) (Both (playfield_now a (tell_listeners plan a begun))
      (each_of cost_of_post (posts_of plan a.switch a.active))))

  abbrev pub if_accepted_now : Option Change → Machine → Cost
  if_accepted_now None s = Lines 0
  if_accepted_now (Some a) s = accepted_now a s

  -- what the beginning of a stimulus costs
  abbrev pub stimulus_now : Stimulus → Machine → Cost
  stimulus_now (SwitchChange at n level) s =
      if_accepted_now (reported_by_change n level at s.switches)
      (set_switches (after_change n level at s.switches) (arrive at s))
  stimulus_now (Alarm at (switch n)) s = accepted_now (report_change (accept n s.switches) n)
      (set_switches (accept n s.switches) (arrive at s))
  stimulus_now (Alarm at (device r)) s = call_now calls.Fire r (arrive at s)
  stimulus_now (Wait at) s = cost_of_stimulus plan s (Wait at)

  -- the coils that a mode holds
  abbrev pub release_now : ModeId → CoilId → Machine → Cost
  release_now m coil s = if is_held_by (owners.Mode m) (coil_at s.coils coil) then Lines 1 else Lines 0

  abbrev pub releases_now : ModeId → Machine → Cost
  releases_now m s = each_now (release_coil (owners.Mode m)) (release_now m) (coil_numbers plan) s

  -- and the machine's work before the handlers of an event, and after them
  abbrev pub before_now : Work → Machine → Cost
  before_now Nothing s = Lines 0
  before_now (Mode m WillStart) s = Lines 0
  before_now (Mode m Starting) s = Lines 0
  before_now (Mode m Started) s = Both (Lines 0)
      (calls_now calls.ModeStart m (set_mode m (entered (mode_state s.modes m)) s))
  before_now (Mode m Stopping) s = Lines 0
  before_now (Mode m Stopped) s = Lines 0
  before_now (Game which) s = Lines 0

  -- a line for each player, if scores are told
  abbrev pub finals_now : Bool → Machine → Cost
  finals_now true s = each_of (λ player. Lines 1) (range_with_len 1 (length s.players.players))
  finals_now false s = Lines 0

  -- one ball more is wanted, if a ball is asked for
  abbrev pub request_now : Bool → Machine → Cost
  request_now asks s = if asks then telling_now (Wanted 1) s else Lines 0

  -- what an event of the game leads to
  abbrev pub step_game_now : GameEvent → Machine → Cost
  step_game_now which s =
      let step = step_now plan which s in
      let next = do_move plan (Stepped which) s in
      Both (Lines 0) (Both (finals_now step.finals next)
      (Both (request_now step.requests (write_finals plan step.finals next)) (cost_of_choice plan step.posts)))

  -- the multiballs, if they end
  abbrev pub ends_now : Machine → Cost
  ends_now s = if in_play s.game == 1 then each_now (call_device plan (calls.Act End)) (call_now (calls.Act End))
      (multiball_rows plan) s else Lines 0

  -- a ball that has drained
  abbrev pub drained_now : Option RowId → Machine → Cost
  drained_now None s = Both (step_game_now BallDrain s) (ends_now (step_game plan BallDrain s))
  drained_now (Some r) s = call_now (calls.Act Save) r s

  abbrev pub game_now : GameEvent → Machine → Cost
  game_now which s = if is_drain which then drained_now (first_active_save plan s) s else step_game_now which s

  abbrev pub after_now : Work → Machine → Cost
  after_now Nothing s = cost_if_led (led_by plan Nothing)
  after_now (Mode m WillStart) s = cost_if_led (led_by plan (Mode m WillStart))
  after_now (Mode m Starting) s = cost_if_led (led_by plan (Mode m Starting))
  after_now (Mode m Started) s = cost_if_led (led_by plan (Mode m Started))
  after_now (Mode m Stopping) s =
      Both (calls_now calls.ModeStop m s) (Both (releases_now m (call_devices plan calls.ModeStop m s))
      (Both (Lines 0) (cost_if_led (led_by plan (Mode m Stopping)))))
  after_now (Mode m Stopped) s = cost_if_led (led_by plan (Mode m Stopped))
  after_now (Game which) s = game_now which s
