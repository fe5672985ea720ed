-- What the fields of a plan hold.
use Rattle.std.specs.Prelude.{ℕ, zero, suc, ◌+◌, ◌≡◌, ◌<◌, List, [], ◌∷◌, ◌++◌, Option, Some, None, length, map}
use Rattle.std.specs.{Prelude.{slice_get, slice_index_or, slice_set, Vec, zip}, List.range_with_len, Global.Global}
use Rattle.plan_tables.specs.declared.{names.NameSets.NameSets, entries.Work.{Work, TheVariants.Nothing}}
use Rattle.plan_tables.specs.declared.entries.{ModeEntry.ModeEntry, BindingId.BindingId}
use Rattle.plan_tables.specs.declared.entries.{SwitchEntry.SwitchEntry, Action.Action, EventId.EventId}
use Rattle.plan_tables.specs.declared.entries.{CoilLimits.CoilLimits, ModeEvents.ModeEvents}
use Rattle.plan_tables.specs.declared.entries.Owner.{Owner, TheVariants.{Machine, Mode}}
use Rattle.plan_tables.specs.declared.devices.{BallTarget.{BallTarget, TheVariants.{Playfield, Device}}, RowId.RowId}
use Rattle.plan_tables.specs.declared.table.Table.{Table, TheVariants.{Events, Switches, Coils, Variables}}
use Rattle.plan_tables.specs.declared.tables.{Tables.Tables, Plan.TheInside.Inside}
use Rattle.plan_tables.specs.{Limits.order_of, NamesKept.names_kept, Owned.bindings_of_owner}
use Rattle.plan_tables.specs.PlanView.{PlanMode, PlanSwitch, PlanCoil, PlanView, feeders_of, or_work, places_of}
use Rattle.plan_tables.specs.PlanView.{rows_of, which_event, work_from, work_of, work_or}

-- the names of each table
abbrev pub name_sets_view : NameSets → Table → List (List ℕ)
name_sets_view n table = names_kept (slice_get n.tables.items (order_of table))

-- a mode and its name
abbrev pub mode_entry_view : ModeEntry → PlanMode
mode_entry_view e = record { name = e.name.items; mode = e.mode }

-- a switch's name, how it is read, what listens to it, and its posts
abbrev pub switch_entry_view : List ℕ × SwitchEntry → PlanSwitch
switch_entry_view e = record {
  name = e.0;
  kind = e.1.kind;
  listeners = e.1.listeners.items;
  confirms_playfield = e.1.confirms_playfield;
  active = e.1.active.items;
  inactive = e.1.inactive.items;
}

-- each switch stands at the place of its name
abbrev pub switches_view : List (List ℕ) → List SwitchEntry → List PlanSwitch
switches_view names entries = map switch_entry_view (zip names entries)

-- a coil's name, and its limits
abbrev pub coil_entry_view : List ℕ × CoilLimits → PlanCoil
coil_entry_view e = record { name = e.0; limits = e.1 }

-- each coil stands at the place of its name
abbrev pub coils_view : List (List ℕ) → List CoilLimits → List PlanCoil
coils_view names entries = map coil_entry_view (zip names entries)

abbrev pub action_lists : List (Vec Action Global) → List (List Action)
action_lists lists = map (λ v. v.items) lists

-- the tables of a plan, apart from where they lie in memory
abbrev pub tables_view : Tables → PlanView
tables_view t = record {
  modes = map mode_entry_view t.modes.items;
  events = name_sets_view t.names Events;
  switches = switches_view (name_sets_view t.names Switches) t.switches.items;
  coils = coils_view (name_sets_view t.names Coils) t.coils.items;
  lists = action_lists t.lists.items;
  bindings = t.bindings.items;
  rows = t.rows.items;
  row_lists = t.row_lists.items;
  variables = name_sets_view t.names Variables;
  game = t.game;
}

abbrev pub plan_view : Inside → PlanView
plan_view p = tables_view p.tables

-- the work of each event of a plan
abbrev pub HasWorks : PlanView → List Work → Type 0
HasWorks plan works = works ≡ map (λ e. work_of plan (record { 0 = e })) (range_with_len 0 (length plan.events))

-- for each event of a plan the places of what is bound to it
abbrev pub HasPlaces : PlanView → List (Vec BindingId Global) → Type 0
HasPlaces plan places = map (λ v. v.items) places
    ≡ map (λ e. places_of plan (record { 0 = e })) (range_with_len 0 (length plan.events))

-- the work of an event by its number, if these are the works of all
abbrev pub work_at : List Work → EventId → Work
work_at works e = slice_index_or works e.0 Nothing

-- the events of the mode of this number have their work, and all others are as they were
pub record AreModeWorks (number : ℕ) (events : ModeEvents) (old new : List Work) : Type 0 where
  pub count : length new ≡ length old
  pub each : (e : EventId) → e.0 < length old → work_at new e ≡ work_or number (which_event events e) (work_at old e)

-- the same of the modes from this number on, of which the first that has an event gives it its work
pub record AreWorksFrom (number : ℕ) (modes : List PlanMode) (old new : List Work) : Type 0 where
  pub count : length new ≡ length old
  pub each : (e : EventId) → e.0 < length old → work_at new e ≡ or_work (work_from number modes e) (work_at old e)

-- ---- rows and bindings by their mode, and ball devices by their target

-- lists, apart from where they lie in memory
abbrev pub lists_view : {Y : Type 0} → List (Vec Y Global) → List (List Y)
lists_view lists = map (λ v. v.items) lists

-- an item more in the list at the place, if there is a place
abbrev pub add_to_list : {Y : Type 0} → List (List Y) → Option ℕ → Y → List (List Y)
add_to_list lists None y = lists
add_to_list lists (Some place) y = slice_set lists place (slice_index_or lists place [] ++ y ∷ [])

-- the mode that acts, if one does
abbrev pub mode_place : Owner → Option ℕ
mode_place Machine = None
mode_place (Mode m) = Some m.0

-- the place of a target, and the target at a place: the playfield comes before all rows
abbrev pub target_place : BallTarget → ℕ
target_place Playfield = 0
target_place (Device r) = suc r.0

abbrev pub target_at : ℕ → BallTarget
target_at zero = Playfield
target_at (suc n) = Device (record { 0 = n })

-- for each mode of a plan the places of its bindings
abbrev pub HasModeBindings : PlanView → List (Vec BindingId Global) → Type 0
HasModeBindings plan lists = lists_view lists
    ≡ map (λ m. bindings_of_owner plan (Mode (record { 0 = m }))) (range_with_len 0 (length plan.modes))

-- and its rows
abbrev pub HasModeRows : PlanView → List (Vec RowId Global) → Type 0
HasModeRows plan lists = lists_view lists ≡ map (λ m. rows_of plan (Mode (record { 0 = m })))
    (range_with_len 0 (length plan.modes))

-- for each target the ball devices that eject to it
abbrev pub HasFeeders : PlanView → List (Vec RowId Global) → Type 0
HasFeeders plan lists = lists_view lists ≡ map (λ n. feeders_of plan (target_at n))
    (range_with_len 0 (length plan.rows + 1))
