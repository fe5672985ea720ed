-- What holds of every plan: each number in it is that of an entry, no two entries of a table have one name, and no
-- table is above its limit.
use Rattle.std.specs.{Prelude.{ℕ, ◌+◌, ◌≡◌, ◌<◌, ◌≤◌, ◌≢◌, true, Option, IsSome, IfSome, length}, List.{All, AllPairs}}
use Rattle.plan_tables.specs.declared.entries.{EventId.EventId, Listener.Listener, Binding.Binding, Condition.Condition}
use Rattle.plan_tables.specs.declared.entries.Owner.{Owner, TheVariants.{Machine, Mode}}
use Rattle.plan_tables.specs.declared.entries.Action.{Action, TheVariants.{Lose, Arrive, Request, AddBalls}}
use Rattle.plan_tables.specs.declared.entries.{ModeId.ModeId, Work.Work, ModeEvent.ModeEvent}
use Rattle.plan_tables.specs.declared.entries.Action.TheVariants.{Post, Pulse, Enable, Disable, Change, Enter, Leave}
use Rattle.plan_tables.specs.declared.entries.{GameEvent.GameEvent, GameRules.GameRules}
use Rattle.plan_tables.specs.declared.entries.Target.{Target, TheVariants.{Run, Start, Stop, Act}}
use Rattle.plan_tables.specs.declared.entries.Work.TheVariants as work_kinds
use Rattle.plan_tables.specs.declared.{devices.{BallTarget.BallTarget, RowId.RowId}, table.Table.Table}
use Rattle.plan_tables.specs.declared.devices.BallTarget.TheVariants as targets
use Rattle.plan_tables.specs.{Devices.{IsWithinLimits, list_count}, Limits.entry_names}
use Rattle.plan_tables.specs.PlanView.{PlanMode, PlanSwitch, PlanCoil, PlanView, game_event, list_of_row, mode_event}
use Rattle.plan_tables.specs.PlanView.{row_at, target_of, work_of}

abbrev pub IsEventWithin : ℕ → EventId → Type 0
IsEventWithin events e = e.0 < events

-- the events of a mode
pub record IsModeWithin (events : ℕ) (m : PlanMode) : Type 0 where
  pub will_start : IsEventWithin events m.mode.events.will_start
  pub starting : IsEventWithin events m.mode.events.starting
  pub started : IsEventWithin events m.mode.events.started
  pub stopping : IsEventWithin events m.mode.events.stopping
  pub stopped : IsEventWithin events m.mode.events.stopped

-- the plan has a game
abbrev pub HasGame : PlanView → Type 0
HasGame plan = IsSome plan.game

abbrev pub IsActionWithin : PlanView → Action → Type 0
IsActionWithin plan (Post e) = e.0 < length plan.events
IsActionWithin plan (Pulse coil ms power) = coil.0 < length plan.coils
IsActionWithin plan (Enable coil power) = coil.0 < length plan.coils
IsActionWithin plan (Disable coil) = coil.0 < length plan.coils
IsActionWithin plan (Change v action n e) = (v.0 < length plan.variables) × (e.0 < length plan.events)
IsActionWithin plan (Enter r e drain) = (r.0 < length plan.rows) × (e.0 < length plan.events)
    × (drain ≡ true → HasGame plan)
IsActionWithin plan (Leave r) = r.0 < length plan.rows
IsActionWithin plan (Lose r) = r.0 < length plan.rows
IsActionWithin plan (Arrive r) = r.0 < length plan.rows
IsActionWithin plan (Request n) = Unit {0}
IsActionWithin plan (AddBalls n) = Unit {0}

abbrev pub IsTargetWithin : PlanView → Target → Type 0
IsTargetWithin plan (Run l) = l.0 < length plan.lists
IsTargetWithin plan (Start m) = m.0 < length plan.modes
IsTargetWithin plan (Stop m) = m.0 < length plan.modes
IsTargetWithin plan (Act r act) = r.0 < length plan.rows

abbrev pub IsOwnerWithin : PlanView → Owner → Type 0
IsOwnerWithin plan Machine = Unit {0}
IsOwnerWithin plan (Mode m) = m.0 < length plan.modes

-- the variable of a condition
abbrev pub IsConditionWithin : PlanView → Option Condition → Type 0
IsConditionWithin plan condition = IfSome condition (λ c. c.variable.0 < length plan.variables)

abbrev pub IsBindingWithin : PlanView → Binding → Type 0
IsBindingWithin plan b = (b.event.0 < length plan.events) × IsOwnerWithin plan b.owner × IsTargetWithin plan b.target
    × IsConditionWithin plan b.condition

abbrev pub IsSwitchWithin : ℕ → PlanSwitch → Type 0
IsSwitchWithin events s = All (IsEventWithin events) s.active × All (IsEventWithin events) s.inactive

abbrev pub IsListenerWithin : ℕ → Listener → Type 0
IsListenerWithin rows l = l.row.0 < rows

-- pulses of 1 to 5,000 milliseconds, and powers of at most 1,000 thousandths
pub record IsCoilWithin (c : PlanCoil) : Type 0 where
  pub some_pulse : 1 ≤ c.limits.max_pulse_ms
  pub pulse : c.limits.max_pulse_ms ≤ 5000
  pub pulse_power : c.limits.max_pulse_power ≤ 1000
  pub hold_power : c.limits.max_hold_power ≤ 1000

-- the events of the game, and its rules
pub record IsGameWithin (events : ℕ) (rules : GameRules) : Type 0 where
  pub within : All (IsEventWithin events) rules.events
  pub min_balls : rules.min_balls ≤ 99
  pub some_ball : 1 ≤ rules.balls_per_game
  pub balls : rules.balls_per_game ≤ 99
  pub some_player : 1 ≤ rules.max_players
  pub players : rules.max_players ≤ 4

-- a target is the playfield, or a row of the plan
abbrev pub IsTargetThere : ℕ → BallTarget → Type 0
IsTargetThere rows targets.Playfield = Unit {0}
IsTargetThere rows (targets.Device r) = r.0 < rows

-- a row is at its number, its owner and its target are there, and it has its effect lists
pub record IsRowWithin (plan : PlanView) (r : RowId) : Type 0 where
  pub number : (row_at plan r).number ≡ r
  pub owner : IsOwnerWithin plan (row_at plan r).owner
  pub target : IsTargetThere (length plan.rows) (target_of plan r)
  pub lists : (list_of_row plan r 0).0 + list_count (row_at plan r).settings ≤ length plan.lists

-- if an event has work, it is this event of a mode of the plan, or of its game
abbrev pub IsWorkAt : PlanView → EventId → Work → Type 0
IsWorkAt plan e work_kinds.Nothing = Unit {0}
IsWorkAt plan e (work_kinds.Mode m which) = (m.0 < length plan.modes) × (e ≡ mode_event plan m which)
IsWorkAt plan e (work_kinds.Game which) = HasGame plan × (e ≡ game_event plan which)

-- every number in the plan is that of an entry, whether the tables are within their limits or not
pub record HasEntries (plan : PlanView) : Type 0 where
  pub modes : All (IsModeWithin (length plan.events)) plan.modes
  pub switches : All (IsSwitchWithin (length plan.events)) plan.switches
  -- only devices of the plan listen to switches
  pub listeners : All (λ s. All (IsListenerWithin (length plan.rows)) s.listeners) plan.switches
  pub lists : All (All (IsActionWithin plan)) plan.lists
  pub bindings : All (IsBindingWithin plan) plan.bindings
  pub rows : (r : RowId) → r.0 < length plan.rows → IsRowWithin plan r
  pub game : IfSome plan.game (IsGameWithin (length plan.events))

pub record IsValid (plan : PlanView) : Type 0 where
  pub mode_limit : length plan.modes ≤ 64
  pub event_limit : length plan.events ≤ 4096
  pub binding_limit : length plan.bindings ≤ 16384
  pub switch_limit : length plan.switches ≤ 256
  pub coil_limit : length plan.coils ≤ 256
  pub variable_limit : length plan.variables ≤ 256
  -- one of each binding, and at most 288 of each row
  pub list_limit : length plan.lists ≤ 311296
  pub row_limit : length plan.rows ≤ 1024
  pub row_lists : length plan.row_lists ≡ length plan.rows
  -- the limits of each coil are within bounds of their own
  pub coils : All IsCoilWithin plan.coils
  pub settings : All (λ row. IsWithinLimits row.settings) plan.rows
  -- no effect list has more than 1,024 actions
  pub action_limit : All (λ actions. length actions ≤ 1024) plan.lists
  pub names : (t : Table) → AllPairs (λ x y. x ≢ y) (entry_names plan t)
  pub entries : HasEntries plan
  -- each mode has five events of its own
  pub works : (m : ModeId) (which : ModeEvent) → m.0 < length plan.modes
      → work_of plan (mode_event plan m which) ≡ work_kinds.Mode m which
  -- and the game has 21 events of its own
  pub game_works : (which : GameEvent) → HasGame plan → work_of plan (game_event plan which) ≡ work_kinds.Game which
