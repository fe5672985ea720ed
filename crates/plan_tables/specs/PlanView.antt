-- A plan, apart from where it lies in memory.
use Rattle.std.specs.Prelude.{ℕ, suc, ◌+◌, ◌==◌, List, [], ◌∷◌, ◌++◌, Bool, true, false, ◌&&◌, Option, Some, None}
use Rattle.std.specs.Prelude.{is_some, if◌then◌else◌, length, map, filter, find, slice_get, slice_index_or, position}
use Rattle.std.specs.{Prelude.{option_map, unwrap_or}, Option.option_map_or, Str.bytes_eq}
use Rattle.std.specs.List.{range_with_len, flat_map, list_any}
use Rattle.machine_settings.specs.declared.words.Contact.TheVariants.{NormallyOpen}
use Rattle.plan_tables.specs.declared.entries.{EventId.EventId, Listener.Listener, Target.{Target, TheVariants.Run}}
use Rattle.plan_tables.specs.declared.entries.{SwitchId.SwitchId, BindingId.BindingId}
use Rattle.plan_tables.specs.declared.entries.{SwitchKind.SwitchKind, VariableId.VariableId}
use Rattle.plan_tables.specs.declared.entries.{CoilId.CoilId, ModeId.ModeId, ListId.ListId, Binding.Binding}
use Rattle.plan_tables.specs.declared.entries.{CoilLimits.CoilLimits, ModeEvents.ModeEvents}
use Rattle.plan_tables.specs.declared.entries.{Mode.Mode, ModeEvent.ModeEvent, Work.Work}
use Rattle.plan_tables.specs.declared.entries.ModeEvent.TheVariants.{WillStart, Starting, Started, Stopping, Stopped}
use Rattle.plan_tables.specs.declared.entries.{GameEvent.GameEvent, GameRules.GameRules}
use Rattle.plan_tables.specs.{GameEvents.{game_events, order_of}, Devices.list_count}
use Rattle.plan_tables.specs.declared.entries.Work.TheVariants as works
use Rattle.plan_tables.specs.declared.entries.{Owner.{Owner, TheVariants.Machine}, Action.{Action, TheVariants.Enable}}
use Rattle.plan_tables.specs.declared.entries.Owner.TheVariants as owners
use Rattle.plan_tables.specs.declared.devices.{RowId.RowId, Settings.Settings}
use Rattle.plan_tables.specs.declared.devices.Act.{Act, TheVariants.{SwitchOn, SwitchOff, Confirm, Request}}
use Rattle.plan_tables.specs.declared.devices.Telling.{Telling, TheVariants.{Arrived, Wanted}}
use Rattle.plan_tables.specs.declared.devices.{DeviceRow.DeviceRow, BallTarget.BallTarget}
use Rattle.plan_tables.specs.declared.devices.BallTarget.TheVariants as targets
use Rattle.plan_tables.specs.declared.devices.Settings.TheVariants.{Accrual, BallDevice, BallSave, Multiball}

-- a switch: its name, how it is read, which devices listen to it, whether a ball that presses it is on the playfield,
-- and what it posts when it becomes active and inactive
pub record PlanSwitch : Type 0 where
  pub name : List ℕ
  pub kind : SwitchKind
  pub listeners : List Listener
  pub confirms_playfield : Bool
  pub active : List EventId
  pub inactive : List EventId

-- what a switch posts when it becomes active, or inactive
abbrev pub switch_posts : Bool → PlanSwitch → List EventId
switch_posts active s = if active then s.active else s.inactive

-- in place of a switch if there is none
abbrev pub no_switch : PlanSwitch
no_switch =
    record {
      name = [];
      kind = record { contact = NormallyOpen; quick = false };
      listeners = [];
      confirms_playfield = false;
      active = [];
      inactive = [];
    }

-- what a device is told when the switch to which it listens becomes active, or inactive
abbrev pub act_of_listener : Bool → Listener → Act
act_of_listener active l = if active then SwitchOn l.switch else SwitchOff l.switch

-- a coil: its name, and what it may be sent
pub record PlanCoil : Type 0 where
  pub name : List ℕ
  pub limits : CoilLimits

-- in place of a coil if there is none: no pulse and no hold is within its limits
abbrev pub no_coil : PlanCoil
no_coil =
    record {
      name = [];
      limits = record { max_pulse_ms = 0; max_pulse_power = 0; max_hold_power = 0; may_hold = false };
    }

-- a mode, with its name
pub record PlanMode : Type 0 where
  pub name : List ℕ
  pub mode : Mode

-- in place of an event if there is none
abbrev pub no_event : EventId
no_event = record { 0 = 0 }

-- in place of a mode if there is none
abbrev pub no_mode : PlanMode
no_mode = record {
  name = [];
  mode = record {
    priority = 0;
    game = false;
    holds_ball_end = false;
    events =
        record {
          will_start = no_event;
          starting = no_event;
          started = no_event;
          stopping = no_event;
          stopped = no_event;
        };
  };
}

-- names, effect lists and rows of devices stand at their numbers, modes in the order of the machine's list, and
-- bindings in plan order
pub record PlanView : Type 0 where
  pub modes : List PlanMode
  pub events : List (List ℕ)
  pub switches : List PlanSwitch
  pub coils : List PlanCoil
  pub lists : List (List Action)
  pub bindings : List Binding
  pub rows : List DeviceRow
  -- for each row the first of its effect lists; the others follow it
  pub row_lists : List ListId
  -- the names of the variables, at their numbers
  pub variables : List (List ℕ)
  -- the rules of the game, if there is one
  pub game : Option GameRules

-- the name of an event
abbrev pub name_of_event : PlanView → EventId → List ℕ
name_of_event plan e = slice_index_or plan.events e.0 []

-- the event of a name, if there is one
abbrev pub event_named : PlanView → List ℕ → Option EventId
event_named plan name = option_map (λ n. record { 0 = n }) (position (bytes_eq name) plan.events)

-- the name of a variable
abbrev pub name_of_variable : PlanView → VariableId → List ℕ
name_of_variable plan v = slice_index_or plan.variables v.0 []

-- the variable of a name, if there is one
abbrev pub variable_named : PlanView → List ℕ → Option VariableId
variable_named plan name = option_map (λ n. record { 0 = n }) (position (bytes_eq name) plan.variables)

-- a mode by its number
abbrev pub mode_at : PlanView → ModeId → PlanMode
mode_at plan m = slice_index_or plan.modes m.0 no_mode

-- this one of a mode's events
abbrev pub event_among : ModeEvents → ModeEvent → EventId
event_among events WillStart = events.will_start
event_among events Starting = events.starting
event_among events Started = events.started
event_among events Stopping = events.stopping
event_among events Stopped = events.stopped

abbrev pub mode_event : PlanView → ModeId → ModeEvent → EventId
mode_event plan m which = event_among (mode_at plan m).mode.events which

-- which of a mode's events it is, if it is one
abbrev pub which_event : ModeEvents → EventId → Option ModeEvent
which_event events e =
    if e.0 == events.will_start.0 then Some WillStart
    else (if e.0 == events.starting.0 then Some Starting
    else (if e.0 == events.started.0 then Some Started
    else (if e.0 == events.stopping.0 then Some Stopping
    else (if e.0 == events.stopped.0 then Some Stopped else None))))

-- the work of an event of the mode of this number; or else this work
abbrev pub work_or : ℕ → Option ModeEvent → Work → Work
work_or n None rest = rest
work_or n (Some which) rest = works.Mode (record { 0 = n }) which

-- the work of an event, if these are the modes from number n on
abbrev pub work_from : ℕ → List PlanMode → EventId → Work
work_from n [] e = works.Nothing
work_from n (m ∷ ms) e = work_or n (which_event m.mode.events e) (work_from (suc n) ms e)

-- ---- the game

-- this one of the game's events
abbrev pub event_in_game : GameRules → GameEvent → EventId
event_in_game rules which = slice_index_or rules.events (order_of which) no_event

-- the work of an event at a place of the game's events; or none
abbrev pub work_in_game : Option GameEvent → Work
work_in_game None = works.Nothing
work_in_game (Some which) = works.Game which

abbrev pub placed_in_game : Option ℕ → Option GameEvent
placed_in_game None = None
placed_in_game (Some place) = slice_get game_events place

-- the work of an event in the game
abbrev pub game_work : Option GameRules → EventId → Work
game_work None e = works.Nothing
game_work (Some rules) e = work_in_game (placed_in_game (position (λ f. f.0 == e.0) rules.events))

-- the first of two works that is one
abbrev pub or_work : Work → Work → Work
or_work works.Nothing rest = rest
or_work (works.Mode m which) rest = works.Mode m which
or_work (works.Game which) rest = works.Game which

-- what the machine itself does at an event, if these are the modes and the rules of the game
abbrev pub work_among : List PlanMode → Option GameRules → EventId → Work
work_among modes game e = or_work (work_from 0 modes e) (game_work game e)

-- what the machine itself does when it takes an event
abbrev pub work_of : PlanView → EventId → Work
work_of plan e = work_among plan.modes plan.game e

-- this one of the game's events, if there is a game
abbrev pub event_of_game : Option GameRules → GameEvent → EventId
event_of_game None which = no_event
event_of_game (Some rules) which = event_in_game rules which

abbrev pub game_event : PlanView → GameEvent → EventId
game_event plan which = event_of_game plan.game which

-- Whether a mode may hold the end of the ball: its settings say so, and there is a game. Without a game no ball ends,
-- and such a mode never starts.
abbrev pub may_hold_ball_end : PlanView → ModeId → Bool
may_hold_ball_end plan m = is_some plan.game && (mode_at plan m).mode.holds_ball_end

-- a switch by its number
abbrev pub switch_at : PlanView → SwitchId → PlanSwitch
switch_at plan s = slice_index_or plan.switches s.0 no_switch

-- the switch of a name, if there is one
abbrev pub switch_named : PlanView → List ℕ → Option SwitchId
switch_named plan name = option_map (λ n. record { 0 = n }) (position (λ s. bytes_eq name s.name) plan.switches)

-- what a switch of the plan posts
abbrev pub posts_of : PlanView → SwitchId → Bool → List EventId
posts_of plan s active = switch_posts active (switch_at plan s)

-- the devices that listen to a switch of the plan, in row order
abbrev pub listeners_of : PlanView → SwitchId → List Listener
listeners_of plan s = (switch_at plan s).listeners

-- a coil by its number
abbrev pub coil_at : PlanView → CoilId → PlanCoil
coil_at plan c = slice_index_or plan.coils c.0 no_coil

-- the coil of a name, if there is one
abbrev pub coil_named : PlanView → List ℕ → Option CoilId
coil_named plan name = option_map (λ n. record { 0 = n }) (position (λ c. bytes_eq name c.name) plan.coils)

-- the actions of an effect list
abbrev pub actions_at : PlanView → ListId → List Action
actions_at plan l = slice_index_or plan.lists l.0 []

-- in place of a binding if there is none
abbrev pub no_binding : Binding
no_binding =
    record {
      event = record { 0 = 0 };
      owner = Machine;
      priority = 0;
      condition = None;
      target = Run (record { 0 = 0 });
    }

-- a binding by its place
abbrev pub binding_at : PlanView → BindingId → Binding
binding_at plan p = slice_index_or plan.bindings p.0 no_binding

-- in place of a row if there is none
abbrev pub no_row : DeviceRow
no_row = record {
  number = record { 0 = 0 };
  owner = Machine;
  settings =
      Accrual
      (record {
        block = record { enabled = false; reset_on_complete = false; disable_on_complete = false; persist = false };
        steps = 0;
      });
}

-- a device's row, by its number
abbrev pub row_at : PlanView → RowId → DeviceRow
row_at plan r = slice_index_or plan.rows r.0 no_row

-- whether two owners are the same
abbrev pub is_owner : Owner → Owner → Bool
is_owner owners.Machine owners.Machine = true
is_owner owners.Machine (owners.Mode m) = false
is_owner (owners.Mode m) owners.Machine = false
is_owner (owners.Mode m) (owners.Mode n) = m.0 == n.0

-- the numbers of all rows
abbrev pub row_numbers : PlanView → List RowId
row_numbers plan = map (λ n. record { 0 = n }) (range_with_len 0 (length plan.rows))

-- the numbers of an owner's rows, in plan order
abbrev pub rows_of : PlanView → Owner → List RowId
rows_of plan owner = filter (λ r. is_owner owner (row_at plan r).owner) (row_numbers plan)

-- an effect list of a row, by its number in the row
abbrev pub list_of_row : PlanView → RowId → ℕ → ListId
list_of_row plan r k = record { 0 = (slice_index_or plan.row_lists r.0 (record { 0 = 0 })).0 + k }

-- ---- ball devices

-- whether two targets are the same
abbrev pub is_target : BallTarget → BallTarget → Bool
is_target targets.Playfield targets.Playfield = true
is_target targets.Playfield (targets.Device r) = false
is_target (targets.Device r) targets.Playfield = false
is_target (targets.Device r) (targets.Device q) = r.0 == q.0

-- where a device ejects balls to, if it is a ball device
abbrev pub target_in : Settings → Option BallTarget
target_in (BallDevice d) = Some d.target
target_in _ = None

-- where a ball device ejects balls to
abbrev pub target_of : PlanView → RowId → BallTarget
target_of plan r = unwrap_or (target_in (row_at plan r).settings) targets.Playfield

-- whether a device ejects balls to the target
abbrev pub feeds : BallTarget → Settings → Bool
feeds target settings = option_map_or (is_target target) (target_in settings) false

-- the ball devices that eject balls to the target, in row order
abbrev pub feeders_of : PlanView → BallTarget → List RowId
feeders_of plan target = filter (λ r. feeds target (row_at plan r).settings) (row_numbers plan)

-- whether a device is a trough
abbrev pub is_trough : Settings → Bool
is_trough (BallDevice d) = d.trough
is_trough _ = false

-- the first trough, if there is one
abbrev pub first_trough : PlanView → Option RowId
first_trough plan = find (λ r. is_trough (row_at plan r).settings) (row_numbers plan)

-- the act of a ball device that is told this
abbrev pub act_told : Telling → Act
act_told (Arrived target) = Confirm
act_told (Wanted n) = Request n

-- whether balls in a device are at home
abbrev pub is_home : Settings → Bool
is_home (BallDevice d) = d.home
is_home _ = false

-- the devices in which balls are at home
abbrev pub home_rows : PlanView → List RowId
home_rows plan = filter (λ r. is_home (row_at plan r).settings) (row_numbers plan)

-- ---- ball saves and multiballs

abbrev pub is_save : Settings → Bool
is_save (BallSave b) = true
is_save _ = false

-- the ball saves, in row order
abbrev pub save_rows : PlanView → List RowId
save_rows plan = filter (λ r. is_save (row_at plan r).settings) (row_numbers plan)

abbrev pub is_multiball : Settings → Bool
is_multiball (Multiball m) = true
is_multiball _ = false

-- the multiballs, in row order
abbrev pub multiball_rows : PlanView → List RowId
multiball_rows plan = filter (λ r. is_multiball (row_at plan r).settings) (row_numbers plan)

-- ---- coils

-- the numbers of all coils
abbrev pub coil_numbers : PlanView → List CoilId
coil_numbers plan = map (λ n. record { 0 = n }) (range_with_len 0 (length plan.coils))

-- the actions of the effect list that a binding runs, if it runs one
abbrev pub actions_of_target : PlanView → Target → List Action
actions_of_target plan (Run l) = actions_at plan l
actions_of_target plan _ = []

-- those of a binding, if it is this owner's
abbrev pub actions_of_binding : PlanView → Owner → Binding → List Action
actions_of_binding plan owner b = if is_owner owner b.owner then actions_of_target plan b.target else []

-- those of all effect lists of a row, if it is this owner's
abbrev pub actions_of_row : PlanView → Owner → RowId → List Action
actions_of_row plan owner r =
    if is_owner owner (row_at plan r).owner
    then flat_map (λ k. actions_at plan (list_of_row plan r k)) (range_with_len 0 (list_count (row_at plan r).settings))
    else []

-- all actions of an owner
abbrev pub actions_of : PlanView → Owner → List Action
actions_of plan owner = flat_map (actions_of_binding plan owner) plan.bindings
    ++ flat_map (actions_of_row plan owner) (row_numbers plan)

-- whether an action enables the coil
abbrev pub is_enable_of : CoilId → Action → Bool
is_enable_of coil (Enable other power) = coil.0 == other.0
is_enable_of coil _ = false

-- the coils that the owner's actions enable, by number
abbrev pub coils_enabled : PlanView → Owner → List CoilId
coils_enabled plan owner = filter (λ coil. list_any (is_enable_of coil) (actions_of plan owner)) (coil_numbers plan)

-- what is bound to the event, in plan order
abbrev pub bound_to : PlanView → EventId → List Binding
bound_to plan e = filter (λ b. b.event.0 == e.0) plan.bindings

-- the places of what is bound to the event, in plan order
abbrev pub places_of : PlanView → EventId → List BindingId
places_of plan e = map (λ n. record { 0 = n })
    (filter (λ n. (binding_at plan (record { 0 = n })).event.0 == e.0) (range_with_len 0 (length plan.bindings)))
