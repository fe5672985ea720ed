-- What handlers and the machine's own work do, one change of the machine after another, and which changes each may
-- make.
use Rattle.std.specs.{Prelude.{◌≡◌, ℕ, ℤ, ◌≤◌, ◌<◌, ◌⊎◌, Option, true, length}, List.list_any}
use Rattle.plan_tables.specs.PlanView.{PlanView, actions_of, is_enable_of, mode_event, row_at, work_of}
use Rattle.plan_tables.specs.Valid.{HasEntries, IsValid}
use Rattle.plan_tables.specs.declared.{devices.RowId.RowId, entries.ModeEvent.TheVariants.{WillStart, Stopping}}
use Rattle.plan_tables.specs.declared.entries.{EventId.EventId, SwitchId.SwitchId, ModeId.ModeId, VariableId.VariableId}
use Rattle.plan_tables.specs.declared.entries.{Owner.Owner, CoilId.CoilId, Work.TheVariants.Game}
use Rattle.plan_tables.specs.declared.entries.GameEvent.{GameEvent, TheVariants.BallDrain}
use Rattle.plan_tables.specs.declared.entries.Owner.TheVariants as owners
use Rattle.device_objects.specs.declared.device.Call.{Call}
use Rattle.ball_devices.specs.Bookings.{LedgerCall}
use Rattle.mode_stack.specs.{declared.phase.ModeState.ModeState, Modes.running_of}
use Rattle.player_game.specs.{Players.after_change, GameStep.{GameStep, game_step, more_balls}}
use Rattle.switch_core.specs.{SwitchStep.SwitchState, Switches.set_state}
use Rattle.written_machine.specs.{declared.line.Happening.Happening, FreePosts.{PostsAreFree, IsFree}}
use Rattle.written_machine.specs.declared.line.Happening.TheVariants as lines
use Rattle.cascade_rank.specs.Cost.{Cost, Lines, Step, Both, price, cost_of_post}
use Rattle.coil_guard.specs.{declared.command.Command.Command, Limits.IsWithin, Asked.limits_of}
use Rattle.coil_guard.specs.declared.command.Command.TheVariants as commands
use Rattle.written_machine.specs.{CoilActions.ActionsKeepLimits, Devices.ActsAreOwn}
use Rattle.written_machine.specs.Machine.{ask_coil, Machine, write, post, set_switches, set_mode, set_device, call_row}
use Rattle.written_machine.specs.Machine.{set_players, set_game, book, home_of, start_mode, stop_mode, drop_hold}
use Rattle.event_queue.specs.Handlers.{takes_part}
use Rattle.written_machine.specs.Run.{switch, device, Stimulus, SwitchChange, Alarm, Wait}

-- ---- single changes

-- One change of the machine. A new kind of change is a new constructor here, with a line in each function by cases
-- below.
pub data Move : Type 0 where
  Wrote : (owner : Owner) (what : Happening) → Move
  Sent : (owner : Owner) (e : EventId) → Move
  Switched : (n : SwitchId) (state : SwitchState) → Move
  -- a mode is told to start, or to stop
  Began : (m : ModeId) → Move
  Ended : (m : ModeId) → Move
  -- a mode has this state from now on
  Marked : (m : ModeId) (state : ModeState) → Move
  -- a mode no longer holds the end of the ball
  Released : (m : ModeId) → Move
  -- a device is called, and goes on to its next state
  Turned : (call : Call) (r : RowId) → Move
  -- an owner asks for a command to a coil
  Asked : (owner : Owner) (command : Command) → Move
  -- the ledger books something
  Booked : (owner : Owner) (call : LedgerCall) → Move
  -- a variable of the current player has this value from now on, if there is one
  Varied : (v : VariableId) (value : Option ℤ) → Move
  -- the game goes on by one of its events
  Stepped : (which : GameEvent) → Move
  -- at least so many balls are in play from now on, while a ball is on
  AddedBalls : (balls : ℕ) → Move

-- what an event of the game leads to
abbrev pub step_now : PlanView → GameEvent → Machine → GameStep
step_now plan which s = game_step plan.game plan which (home_of plan s) s.game s.players

abbrev pub do_move : PlanView → Move → Machine → Machine
do_move plan (Wrote owner what) s = write owner what s
do_move plan (Sent owner e) s = post owner e s
do_move plan (Switched n state) s = set_switches (set_state n state s.switches) s
do_move plan (Began m) s = start_mode plan m s
do_move plan (Ended m) s = stop_mode plan m s
do_move plan (Marked m state) s = set_mode m state s
do_move plan (Released m) s = drop_hold m s
do_move plan (Turned call r) s = set_device r (call_row plan call r s).0 s
do_move plan (Asked owner command) s = ask_coil owner command s
do_move plan (Booked owner call) s = book owner call s
do_move plan (Varied v value) s = set_players (after_change plan v value s.players) s
do_move plan (Stepped which) s = set_players (step_now plan which s).players (set_game (step_now plan which s).game s)
do_move plan (AddedBalls n) s = set_game (more_balls n s.game) s

abbrev pub cost_of_move : PlanView → Move → Cost
cost_of_move plan (Wrote owner what) = Lines 1
cost_of_move plan (Sent owner e) = cost_of_post e
cost_of_move plan (Switched n state) = Lines 0
cost_of_move plan (Began m) = cost_of_post (mode_event plan m WillStart)
cost_of_move plan (Ended m) = cost_of_post (mode_event plan m Stopping)
cost_of_move plan (Marked m state) = Lines 0
cost_of_move plan (Released m) = Lines 0
cost_of_move plan (Turned call r) = Step
cost_of_move plan (Asked owner command) = Lines 1
cost_of_move plan (Booked owner call) = Lines 1
cost_of_move plan (Varied v value) = Lines 0
cost_of_move plan (Stepped which) = Lines 0
cost_of_move plan (AddedBalls n) = Lines 0

-- the line is not that of an event: those come only as events are taken
abbrev pub IsNoEvent : Happening → Type 0
IsNoEvent (lines.Switch n active) = Unit {0}
IsNoEvent (lines.Event e) = ⊥
IsNoEvent (lines.Coil command) = Unit {0}
IsNoEvent (lines.Skip command) = Unit {0}
IsNoEvent (lines.Player player v value) = Unit {0}
IsNoEvent (lines.Balls booking counts) = Unit {0}
IsNoEvent (lines.Final player score) = Unit {0}

-- nor that of a command: those come only as coils are asked
abbrev pub IsNoCommand : Happening → Type 0
IsNoCommand (lines.Switch n active) = Unit {0}
IsNoCommand (lines.Event e) = Unit {0}
IsNoCommand (lines.Coil command) = ⊥
IsNoCommand (lines.Skip command) = ⊥
IsNoCommand (lines.Player player v value) = Unit {0}
IsNoCommand (lines.Balls booking counts) = Unit {0}
IsNoCommand (lines.Final player score) = Unit {0}

-- nor that of a booking: those come only as the ledger books
abbrev pub IsNoBooking : Happening → Type 0
IsNoBooking (lines.Balls booking counts) = ⊥
IsNoBooking _ = Unit {0}

-- if it is a mode, an action of it enables the coil
abbrev pub MayHold : PlanView → CoilId → Owner → Type 0
MayHold plan coil owners.Machine = Unit {0}
MayHold plan coil (owners.Mode m) = list_any (is_enable_of coil) (actions_of plan (owners.Mode m)) ≡ true

-- what an owner asks for is held only by one that may
abbrev pub IsListed : PlanView → Owner → Command → Type 0
IsListed plan owner (commands.Pulse coil ms power) = Unit {0}
IsListed plan owner (commands.Enable coil power) = MayHold plan coil owner
IsListed plan owner (commands.Disable coil) = Unit {0}

-- A licence: by which owners lines and events may come and devices be called, which events, whether switches may
-- change, and whether modes may be marked and let go of the end of the ball.
pub record Licence : Type 1 where
  pub by : Owner → Type 0
  pub posts : EventId → Type 0
  pub switches : Type 0
  pub marks : Type 0

-- What a licence allows. If the plan's numbers are those of entries, only events and modes of the plan are touched.
-- Owners are looked at if bindings act on devices of their own owner alone.
abbrev pub MayDo : PlanView → Licence → Move → Type 0
MayDo plan l (Wrote owner what) = (ActsAreOwn plan → l.by owner) × IsNoEvent what × IsNoCommand what × IsNoBooking what
MayDo plan l (Sent owner e) = (ActsAreOwn plan → l.by owner) × (HasEntries plan → e.0 < length plan.events) × l.posts e
MayDo plan l (Switched n state) = l.switches
MayDo plan l (Began m) = HasEntries plan → m.0 < length plan.modes
MayDo plan l (Ended m) = HasEntries plan → m.0 < length plan.modes
MayDo plan l (Marked m state) = l.marks
MayDo plan l (Released m) = l.marks
MayDo plan l (Turned call r) = ActsAreOwn plan → l.by (row_at plan r).owner
MayDo plan l (Asked owner command) = (ActsAreOwn plan → l.by owner)
    × (ActionsKeepLimits plan → IsWithin (limits_of plan) command) × IsListed plan owner command
MayDo plan l (Booked owner call) = ActsAreOwn plan → l.by owner
MayDo plan l (Varied v value) = Unit {0}
MayDo plan l (Stepped which) = Unit {0}
MayDo plan l (AddedBalls n) = Unit {0}

-- If nothing in a valid plan posts an event at which the machine itself does something, but the start button's, this
-- is none either, or it is that of a ball that drains.
abbrev pub IsFreeThere : PlanView → EventId → Type 0
IsFreeThere plan e = IsValid plan → PostsAreFree plan → IsFree plan e ⊎ (work_of plan e ≡ Game BallDrain)

-- From one state to another by moves that are allowed, and that cost at most this.
pub data Does (plan : PlanView) (may : Move → Type 0) : Cost → Machine → Machine → Type 0 where
  quiet : {s : Machine} → Does plan may (Lines 0) s s
  one_move : (x : Move) (s : Machine) → may x → Does plan may (cost_of_move plan x) s (do_move plan x s)
  both : {a b : Cost} {s m t : Machine} → Does plan may a s m → Does plan may b m t → Does plan may (Both a b) s t
  less : {a b : Cost} {s t : Machine} → Does plan may a s t → ((w : EventId → ℕ) → price w a ≤ price w b)
      → Does plan may b s t

-- lines, waiting events, known balls and bookings that were left out only grow
pub record Grows (s t : Machine) : Type 0 where
  pub lines : length s.lines ≤ length t.lines
  pub waiting : length s.waiting ≤ length t.waiting
  pub known : s.ledger.known ≤ t.ledger.known
  pub bookings : s.bookings_left_out ≤ t.bookings_left_out

-- ---- licences

-- the owner takes part in a state
abbrev pub TakesPart : Machine → Owner → Type 0
TakesPart s owner = takes_part (running_of s.modes) owner ≡ true

abbrev pub IsMachine : Owner → Type 0
IsMachine owner = owner ≡ owners.Machine

-- lines and events of these owners; when it does not matter who posts what, no event at which the machine itself does
-- something
abbrev pub ordinary : PlanView → (Owner → Type 0) → Type 0 → Licence
ordinary plan by switches = record { by = by; posts = IsFreeThere plan; switches = switches; marks = ⊥ }

-- what the handlers of an event may do, which run from this state on: no switch changes
abbrev pub MayHandle : PlanView → Machine → Move → Type 0
MayHandle plan s = MayDo plan (ordinary plan (TakesPart s) ⊥)

-- who speaks at the beginning of a stimulus: the machine, and at the alarm of a device its owner too
abbrev pub Begins : PlanView → Stimulus → Owner → Type 0
Begins plan (SwitchChange at n level) owner = IsMachine owner
Begins plan (Alarm at (switch n)) owner = IsMachine owner
Begins plan (Alarm at (device r)) owner = (owner ≡ (row_at plan r).owner) ⊎ IsMachine owner
Begins plan (Wait at) owner = IsMachine owner

-- what a stimulus may do
abbrev pub MayBegin : PlanView → Stimulus → Move → Type 0
MayBegin plan stimulus = MayDo plan (ordinary plan (Begins plan stimulus) (Unit {0}))

-- what the machine itself may do at an event
abbrev pub working : Licence
working = record { by = λ owner. Unit {0}; posts = λ e. Unit {0}; switches = ⊥; marks = Unit {0} }

abbrev pub MayWork : PlanView → Move → Type 0
MayWork plan = MayDo plan working
