-- The state of a core, which is a machine with room for events and lines, and what is done with it.
use Rattle.std.specs.Prelude.{◌≡◌, ◌≢◌, ℕ, ◌<◌, ◌≤◌, ◌^◌, Bool, true, false, Option, Some, None, List, [], ◌∷◌, length}
use Rattle.plan_tables.specs.{PlanView.PlanView, declared.entries.{GameEvent.GameEvent, EventId.EventId}, Valid.HasGame}
use Rattle.plan_tables.specs.declared.entries.Work.{Work, TheVariants.{Nothing, Mode, Game}}
use Rattle.player_game.specs.{declared.game.GameWork.GameWork, GameStep.{GameStep, game_step}}
use Rattle.switch_core.specs.Switches.{IsComplete}
use Rattle.event_queue.specs.{declared.queue.Posted.Posted, PlanOrder.by_priority}
use Rattle.mode_stack.specs.Modes.{running_of}
use Rattle.written_machine.specs.Machine.{Machine, all_do, do_handler, home_of, set_game, set_players}
use Rattle.written_machine.specs.{Devices.HasDevices, NextAlarm.next_alarm, PlanOrder.{plan_step, plan_steps}}
use Rattle.written_machine.specs.EventStep.{work_before, work_after, handlers_in}
use Rattle.written_machine.specs.Run.{Stimulus, SwitchChange, Alarm, Wait}

pub record CoreView : Type 0 where
  pub plan : PlanView
  -- for each mode of the plan, by number, whether its bindings are handlers
  pub running : List Bool
  pub machine : Machine
  -- how many events may wait, and how many lines may be written
  pub room : ℕ

-- the core after this was done to its machine
abbrev pub after : (Machine → Machine) → CoreView → CoreView
after does c = record c { machine = does c.machine }

-- the same, when which modes run may have changed: its handlers are those of the modes that run now
abbrev pub follow : (Machine → Machine) → CoreView → CoreView
follow does c = record {
  plan = c.plan;
  running = running_of (does c.machine).modes;
  machine = does c.machine;
  room = c.room;
}

-- devices can be called, and coils asked: each device has a state of its shape, there are all coils, and the moment is
-- not too late
pub record CanCall (c : CoreView) : Type 0 where
  pub devices : HasDevices c.plan c.machine.devices
  pub coils : length c.machine.coils ≡ length c.plan.coils
  pub early : c.machine.moment < 2 ^ 40

-- it has the handlers of the modes that run
abbrev pub HasHandlers : CoreView → Type 0
HasHandlers c = c.running ≡ running_of c.machine.modes

-- the work is none, that of a mode of the plan, or that of its game
abbrev pub IsWorkOf : PlanView → Work → Type 0
IsWorkOf plan Nothing = Unit {0}
IsWorkOf plan (Mode m which) = m.0 < length plan.modes
IsWorkOf plan (Game which) = HasGame plan

-- what is done in plan order at an event that was taken
abbrev pub after_taken : PlanView → EventId → Machine → Machine
after_taken plan e s =
    let ready = work_before plan e s in
    work_after plan e s (all_do (do_handler plan) (by_priority plan (handlers_in plan ready e)) ready)

-- the game and its players go on as an event of the game says
abbrev pub step_at : PlanView → GameEvent → Machine → GameStep
step_at plan which s = game_step plan.game plan which (home_of plan s) s.game s.players

abbrev pub play_event : PlanView → GameEvent → Machine → Machine
play_event plan which s = set_players (step_at plan which s).players (set_game (step_at plan which s).game s)

-- what else the event leads to
pub record IsWorkOfGame (plan : PlanView) (which : GameEvent) (s : Machine) (work : GameWork) : Type 0 where
  pub posts : work.posts.items ≡ (step_at plan which s).posts
  pub requests : work.requests ≡ (step_at plan which s).requests
  pub finals : work.finals ≡ (step_at plan which s).finals

-- the machine is that of the core's plan: it has its modes, devices and coils, the handlers of the modes that run, and
-- all its switches
pub record IsWhole (c : CoreView) : Type 0 where
  pub devices : HasDevices c.plan c.machine.devices
  pub coils : length c.machine.coils ≡ length c.plan.coils
  pub modes : length c.machine.modes ≡ length c.plan.modes
  pub handlers : HasHandlers c
  pub kinds : length c.machine.switches.kinds ≡ length c.plan.switches
  pub complete : IsComplete c.machine.switches

-- the event that waits first is taken, if one waits
abbrev pub TakesFirst : Option Posted → CoreView → CoreView → Type 0
TakesFirst None old new = (old.machine.waiting ≡ []) × (new ≡ old)
TakesFirst (Some first) old new = (rest : List Posted) × (old.machine.waiting ≡ first ∷ rest)
    × (new ≡ after (λ s. record s { waiting = rest }) old)

-- the moment is not too late, a change is that of a switch which there is, and an alarm is the next one
abbrev pub IsPlayable : CoreView → Stimulus → Type 0
IsPlayable c (SwitchChange at switch level) = (at < 2 ^ 40) × (switch.0 < length c.machine.switches.kinds)
IsPlayable c (Alarm at source) = (at < 2 ^ 40) × (next_alarm c.machine ≡ Some (at, source))
IsPlayable c (Wait at) = at < 2 ^ 40

-- what waits and what was written fits, no booking was left out, and fewer than 2^32 balls are known
pub record IsWithin (room : ℕ) (s : Machine) : Type 0 where
  pub waiting : length s.waiting ≤ room
  pub lines : length s.lines ≤ room
  pub none_left_out : s.bookings_left_out ≡ 0
  pub few : s.ledger.known < 2 ^ 32

-- the machine stays within these bounds after each number of event steps in plan order
abbrev pub StaysWithin : CoreView → Type 0
StaysWithin c = (n : ℕ) → IsWithin c.room (plan_steps c.plan n c.machine)

-- one event step in plan order, as an event waits; or nothing, as none does
abbrev pub HasAdvanced : CoreView → Bool → CoreView → Type 0
HasAdvanced old true new = (old.machine.waiting ≢ []) × (new ≡ follow (plan_step old.plan) old)
HasAdvanced old false new = (old.machine.waiting ≡ []) × (new ≡ old)

-- so many event steps in plan order that nothing waits any more
pub record HasSettled (old new : CoreView) : Type 0 where
  pub count : ℕ
  pub new_is : new ≡ follow (plan_steps old.plan count) old
  pub settles : new.machine.waiting ≡ []
