-- One event is taken from the queue and handled.
use Rattle.std.specs.Prelude.{◌≡◌, ℕ, zero, suc, Bool, false, if◌then◌else◌, List, ◌∷◌}
use Rattle.plan_tables.specs.PlanView.{PlanView, mode_event, work_of}
use Rattle.plan_tables.specs.declared.entries.{EventId.EventId, BindingId.BindingId}
use Rattle.plan_tables.specs.declared.entries.ModeEvent.TheVariants.{WillStart, Starting, Started, Stopping, Stopped}
use Rattle.plan_tables.specs.declared.entries.Work.{Work, TheVariants.{Nothing, Mode, Game}}
use Rattle.plan_tables.specs.declared.entries.Owner.TheVariants as owners
use Rattle.device_objects.specs.declared.device.Call.TheVariants as calls
use Rattle.mode_stack.specs.{ModeStep.{entered, ended}, Modes.{mode_state, running_of}}
use Rattle.written_machine.specs.declared.line.Happening.TheVariants as lines
use Rattle.event_queue.specs.{declared.queue.Posted.Posted, Handlers.{handlers, IsHandlerOrder}}
use Rattle.written_machine.specs.Machine.{Machine, write, post, set_mode, all_do, stop_mode, release_ball_end}
use Rattle.written_machine.specs.Machine.{call_devices, release_coils, do_game, do_handler}

-- the first waiting event is taken, and its line is written
abbrev pub take_event : Posted → List Posted → Machine → Machine
take_event first rest s = write first.owner (lines.Event first.event) (record s { waiting = rest })

-- ---- what the machine itself does at an event

-- Before the handlers run: a mode is active from its event `started` on, so that its own handlers run then. Its devices
-- start before them.
abbrev pub do_before : PlanView → Work → Machine → Machine
do_before plan Nothing s = s
do_before plan (Mode m WillStart) s = s
do_before plan (Mode m Starting) s = s
do_before plan (Mode m Started) s = call_devices plan calls.ModeStart m (set_mode m (entered (mode_state s.modes m)) s)
do_before plan (Mode m Stopping) s = s
do_before plan (Mode m Stopped) s = s
do_before plan (Game which) s = s

-- whether a stop is kept for the mode that becomes active
abbrev pub is_kept : Work → Machine → Bool
is_kept Nothing s = false
is_kept (Mode m WillStart) s = false
is_kept (Mode m Starting) s = false
is_kept (Mode m Started) s = (mode_state s.modes m).keeps_stop
is_kept (Mode m Stopping) s = false
is_kept (Mode m Stopped) s = false
is_kept (Game which) s = false

-- After the handlers: a mode goes on from one of its events to the next. At `stopping`, after its own handlers of that
-- event, its devices stop, the coils that it holds are disabled, and then it ends. At `started` it is told to stop, if
-- a stop was kept. At `stopped` it lets go of the end of the ball. The game goes on as its event says.
abbrev pub do_after : PlanView → Bool → Work → Machine → Machine
do_after plan keeps_stop Nothing s = s
do_after plan keeps_stop (Mode m WillStart) s = post owners.Machine (mode_event plan m Starting) s
do_after plan keeps_stop (Mode m Starting) s = post owners.Machine (mode_event plan m Started) s
do_after plan keeps_stop (Mode m Started) s = if keeps_stop then stop_mode plan m s else s
do_after plan keeps_stop (Mode m Stopping) s = post owners.Machine (mode_event plan m Stopped)
    (set_mode m (ended (mode_state s.modes m))
    (release_coils plan (owners.Mode m) (call_devices plan calls.ModeStop m s)))
do_after plan keeps_stop (Mode m Stopped) s = release_ball_end plan m s
do_after plan keeps_stop (Game which) s = do_game plan which s

abbrev pub work_before : PlanView → EventId → Machine → Machine
work_before plan e s = do_before plan (work_of plan e) s

-- whether a stop was kept is asked of the state before
abbrev pub work_after : PlanView → EventId → Machine → Machine → Machine
work_after plan e before s = do_after plan (is_kept (work_of plan e) before) (work_of plan e) s

-- ---- the event step

-- the state before the handlers of the event run, in which they are chosen
abbrev pub before_handlers : PlanView → Posted → List Posted → Machine → Machine
before_handlers plan first rest s = work_before plan first.event (take_event first rest s)

-- the event is taken, the work before its handlers is done, they run in this order, and the work after them is done
abbrev pub after_event : PlanView → Posted → List Posted → List BindingId → Machine → Machine
after_event plan first rest order s = work_after plan first.event s
    (all_do (do_handler plan) order (before_handlers plan first rest s))

-- the handlers of an event in a state of the machine: those of the machine, and of the modes that run
abbrev pub handlers_in : PlanView → Machine → EventId → List BindingId
handlers_in plan s e = handlers plan (running_of s.modes) e

-- The first waiting event is taken and handled, in some order of its handlers that is descending in priority.
pub record EventStep (plan : PlanView) (old new : Machine) : Type 0 where
  pub first : Posted
  pub rest : List Posted
  pub waiting : old.waiting ≡ first ∷ rest
  pub order : List BindingId
  pub in_order : IsHandlerOrder plan (handlers_in plan (before_handlers plan first rest old) first.event) order
  pub new_is : new ≡ after_event plan first rest order old

-- so many event steps
abbrev pub EventSteps : PlanView → ℕ → Machine → Machine → Type 0
EventSteps plan zero old new = new ≡ old
EventSteps plan (suc n) old new = (mid : Machine) × EventStep plan old mid × EventSteps plan n mid new
