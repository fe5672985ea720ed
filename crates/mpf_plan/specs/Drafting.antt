-- What a draft holds, and what each step adds to it.
use Rattle.std.specs.Prelude.{◌≡◌, ◌≤◌, ◌<◌, ℕ, ◌+◌, Bool, false, List, [], ◌∷◌, ◌++◌, Option, None, Some, Result, Ok}
use Rattle.std.specs.Prelude.{Err, length, map, drop, slice_get, slice_set, slice_index_or, Vec}
use Rattle.std.specs.{Global.Global, List.{All, flat_map}, Borrow.Bor}
use Rattle.mpf_values.specs.Events.{EventCondition, Event}
use Rattle.setting_values.specs.{declared.values.Guard.Guard, View.guard_view}
use Rattle.mpf_config.specs.Rows.{Rows}
use Rattle.plan_tables.specs.declared.{names.NameTable.NameTable, devices.{RowId.RowId, Act.Act}}
use Rattle.plan_tables.specs.declared.table.Table.{Table, TheVariants.{Events, Switches, Coils, Variables}}
use Rattle.plan_tables.specs.declared.table.Table.TheVariants as tables
use Rattle.plan_tables.specs.{declared.entries.{Binding.Binding, EventId.EventId}, NamesKept.names_kept}
use Rattle.plan_tables.specs.declared.entries.{Listener.Listener, CoilLimits.CoilLimits}
use Rattle.plan_tables.specs.declared.entries.{ModeEvents.ModeEvents, SwitchKind.SwitchKind}
use Rattle.plan_tables.specs.declared.entries.{ModeId.ModeId, SwitchEntry.SwitchEntry, Target.Target}
use Rattle.plan_tables.specs.declared.entries.ModeEvent.TheVariants.{WillStart, Starting, Started, Stopping, Stopped}
use Rattle.plan_tables.specs.declared.entries.Target.TheVariants as targets
use Rattle.plan_tables.specs.PlanView.{PlanView, PlanSwitch, no_switch, PlanCoil, no_coil}
use Rattle.plan_tables.specs.Limits.{entry_count, first_above, limit_of, order_of}
use Rattle.plan_tables.specs.PlanFields.{action_lists, coils_view, mode_entry_view, switches_view}
use Rattle.plan_rows.specs.declared.rows.Row as written
use Rattle.plan_parts.specs.{declared.names.NamePieces.NamePieces, Effects.Effect, View.pieces_text}
use Rattle.plan_parts.specs.declared.row_parts.ModeControl.{ModeControl, TheVariants.{Start, Stop}}
use Rattle.plan_parts.specs.Parts.{Part, handler, device, act_on, Whose}
use Rattle.mpf_plan.specs.declared.{draft.Draft.Draft, fault.PlanFault.PlanFault}
use Rattle.mpf_plan.specs.declared.fault.PlanFault.TheVariants as faults
use Rattle.mpf_plan.specs.declared.names.Names as held_names
use Rattle.mpf_plan.specs.{Uses.{Names, first_uses}, ByNumber.action_of, Lacking.parts_of_rows}
use Rattle.mpf_plan.specs.PlanOf.{Use, uses_of, event_uses, effect_uses, part_uses, in_table, names_of, plan_by}
use Rattle.mpf_plan.specs.PlanOf.{binding_of, event_for, listeners_among}
use Rattle.first_names.specs.FirstNames.{IsNameTableOf}

-- ---- names

-- the names that are kept of a table, and whether there are more
abbrev pub kept_names : held_names.Names → Table → List (List ℕ)
kept_names names table = names_kept (slice_get names.tables.items (order_of table))

abbrev pub is_above : Option NameTable → Bool
is_above None = false
is_above (Some t) = t.above

abbrev pub is_table_above : held_names.Names → Table → Bool
is_table_above names table = is_above (slice_get names.tables.items (order_of table))

-- the names of each table that are used, at their numbers
abbrev pub names_by : List Use → Names
names_by us table = first_uses (in_table table us)

-- bindings and rows have no names
abbrev pub HasNames : Table → Type 0
HasNames tables.Bindings = ⊥
HasNames tables.Rows = ⊥
HasNames _ = Unit {0}

-- no table of names is above its limit
abbrev pub AreWithin : List Use → Type 0
AreWithin us = (t : Table) → HasNames t → length (names_by us t) ≤ limit_of t

-- the tables have the names of these uses
pub record AreNamesOf (us : List Use) (store : held_names.Names) : Type 0 where
  pub limits : (t : Table) (name_table : NameTable) → slice_get store.tables.items (order_of t) ≡ Some name_table
      → name_table.limit ≡ limit_of t
  pub names : (t : Table) (name_table : NameTable) → slice_get store.tables.items (order_of t) ≡ Some name_table
      → IsNameTableOf (names_by us t) name_table

-- these uses are added to those before
abbrev pub Notes : (old new : held_names.Names) → List Use → Type 0
Notes old new more = (us : List Use) → AreNamesOf us old → AreNamesOf (us ++ more) new

-- `it` is `what` of the names with these uses added, if the names are within their limits. It is so after any further
-- uses too, since a name keeps its number.
abbrev pub IsNumbered : {X : Type 0} → held_names.Names → List Use → (Names → X) → X → Type 0
IsNumbered old more what it = (us : List Use) → AreNamesOf us old → AreWithin (us ++ more)
    → it ≡ what (names_by (us ++ more))

abbrev pub names_uses : Table → List NamePieces → List Use
names_uses table ns = uses_of table (map pieces_text ns)

-- the condition of a handler
abbrev pub guard_condition : Bor Guard → EventCondition
guard_condition g = guard_view g.now

-- ---- switches and coils

-- a switch, and a coil, of which no more is known than the name
abbrev pub named_switch : List ℕ → PlanSwitch
named_switch name = record no_switch { name = name }

abbrev pub named_coil : List ℕ → PlanCoil
named_coil name = record no_coil { name = name }

-- the names that are new
abbrev pub new_names : (old new : List (List ℕ)) → List (List ℕ)
new_names old new = drop (length old) new

-- there is one switch more, of which no more is known than the name
abbrev pub HasBlankSwitch : (old new : Vec SwitchEntry Global) → Type 0
HasBlankSwitch old new =
    (ns : List (List ℕ)) (n : List ℕ) → length ns ≡ length old.items
    → switches_view (ns ++ n ∷ []) new.items ≡ switches_view ns old.items ++ named_switch n ∷ []

-- one for each name
abbrev pub HasOneEach : {X : Type 0} → Table → held_names.Names → Vec X Global → Type 0
HasOneEach table names entries = length entries.items ≡ length (kept_names names table)

-- this holds, if the names are within their limits with these uses added
abbrev pub IfWithin : held_names.Names → List Use → Type 0 → Type 0
IfWithin old more holds = (us : List Use) → AreNamesOf us old → AreWithin (us ++ more) → holds

-- The name is used. If it was there, nothing else changes. If it is new, there is one switch more, or one coil more, of
-- which no more is known.
pub record NotesSwitch (old new : held_names.Names) (before after : Vec SwitchEntry Global) (name : List ℕ) : Type
    0 where
  pub names : Notes old new ((Switches, name) ∷ [])
  pub count : IfWithin old ((Switches, name) ∷ []) (HasOneEach Switches old before → HasOneEach Switches new after)
  pub entries : IfWithin old ((Switches, name) ∷ []) (HasOneEach Switches old before
      → switches_view (kept_names new Switches) after.items
      ≡ switches_view (kept_names old Switches) before.items
      ++ map named_switch (new_names (kept_names old Switches) (kept_names new Switches)))

pub record NotesCoils (old new : held_names.Names) (before after : Vec CoilLimits Global) (more : List Use) : Type
    0 where
  pub names : Notes old new more
  pub count : IfWithin old more (HasOneEach Coils old before → HasOneEach Coils new after)
  pub entries : IfWithin old more (HasOneEach Coils old before
      → coils_view (kept_names new Coils) after.items
      ≡ coils_view (kept_names old Coils) before.items
      ++ map named_coil (new_names (kept_names old Coils) (kept_names new Coils)))

abbrev pub NotesCoil : (old new : held_names.Names) (before after : Vec CoilLimits Global) → List ℕ → Type 0
NotesCoil old new before after name = NotesCoils old new before after ((Coils, name) ∷ [])

abbrev pub NotesEffects : (old new : held_names.Names) (before after : Vec CoilLimits Global) → List Effect → Type 0
NotesEffects old new before after effects = NotesCoils old new before after (flat_map effect_uses effects)

-- one more listens to a switch
abbrev pub with_listener : Listener → PlanSwitch → PlanSwitch
with_listener listener s = record s { listeners = s.listeners ++ listener ∷ [] }

-- the row listens to a switch wherever it is among these
abbrev pub with_listeners : RowId → List (List ℕ) → PlanSwitch → PlanSwitch
with_listeners row listens s = record s { listeners = s.listeners ++ listeners_among s.name row listens }

-- one more listens to the switch of this number
abbrev pub ListensTo : (old new : Vec SwitchEntry Global) → ℕ → Listener → Type 0
ListensTo old new number listener =
    (length new.items ≡ length old.items)
    × ((ns : List (List ℕ)) → switches_view ns new.items
    ≡ slice_set (switches_view ns old.items) number
    (with_listener listener (slice_index_or (switches_view ns old.items) number no_switch)))

-- the switch of this number is read and posts so
abbrev pub entered_as : SwitchKind → Bool → (active inactive : List EventId) → PlanSwitch → PlanSwitch
entered_as kind confirms active inactive s =
    record s { kind = kind; confirms_playfield = confirms; active = active; inactive = inactive }

abbrev pub EntersSwitch : (old new : Vec SwitchEntry Global) → ℕ → SwitchKind → Bool → (active inactive : List EventId)
    → Type 0
EntersSwitch old new number kind confirms active inactive =
    (length new.items ≡ length old.items)
    × (number < length old.items → (ns : List (List ℕ)) → switches_view ns new.items
    ≡ slice_set (switches_view ns old.items) number
    (entered_as kind confirms active inactive (slice_index_or (switches_view ns old.items) number no_switch)))

-- the coil of this number has these limits
abbrev pub with_limits : CoilLimits → PlanCoil → PlanCoil
with_limits limits c = record c { limits = limits }

abbrev pub LimitsCoil : (old new : Vec CoilLimits Global) → ℕ → CoilLimits → Type 0
LimitsCoil old new number limits =
    (length new.items ≡ length old.items)
    × (number < length old.items → (ns : List (List ℕ)) → coils_view ns new.items
    ≡ slice_set (coils_view ns old.items) number
    (with_limits limits (slice_index_or (coils_view ns old.items) number no_coil)))

-- ---- modes

abbrev pub mode_events_of : Names → List ℕ → ModeEvents
mode_events_of names name = record {
  will_start = event_for names WillStart name;
  starting = event_for names Starting name;
  started = event_for names Started name;
  stopping = event_for names Stopping name;
  stopped = event_for names Stopped name;
}

abbrev pub control_target : ModeId → ModeControl → Target
control_target m Start = targets.Start m
control_target m Stop = targets.Stop m

-- ---- seats

-- each of the events acts on the row of this number
abbrev pub seated_part : Whose → ℕ → Event × Act → Part
seated_part whose number h = handler whose h.0 (act_on (record { 0 = number }) h.1)

abbrev pub seated_parts : Whose → ℕ → List (Event × Act) → List Part
seated_parts whose number event_acts = map (seated_part whose number) event_acts

-- ---- the draft

-- its plan, under the names that it keeps
abbrev pub draft_view : Draft → PlanView
draft_view d = record {
  modes = map mode_entry_view d.modes.items;
  events = kept_names d.names Events;
  switches = switches_view (kept_names d.names Switches) d.switches.items;
  coils = coils_view (kept_names d.names Coils) d.coils.items;
  lists = action_lists d.lists.items;
  bindings = d.bindings.items;
  rows = d.rows.items;
  row_lists = d.row_lists.items;
  variables = kept_names d.names Variables;
  game = d.game;
}

-- there are as many bindings, rows and effect lists as the parts give
pub record HasCounts (ps : List Part) (d : Draft) : Type 0 where
  pub bindings : length d.bindings.items ≡ length (plan_by (names_of ps) ps).bindings
  pub rows : length d.rows.items ≡ length (plan_by (names_of ps) ps).rows
  pub lists : length d.lists.items ≡ length (plan_by (names_of ps) ps).lists

-- The numbers of a part can be kept: the number of the row on which it acts, and how many effect lists it has.
abbrev pub IsKept : Part → Type 0
IsKept (handler whose e (act_on row act)) = row.0 ≤ 65535
IsKept (device whose d) = length d.lists ≤ 65535
IsKept _ = Unit {0}

-- It is the draft of these parts: of their names, with one entry for each name of a switch and of a coil, if names are
-- within their limits; with as many bindings, rows and effect lists as they give; and the plan of the parts, if no
-- table is above its limit.
pub record IsDraftOf (ps : List Part) (d : Draft) : Type 0 where
  pub names : AreNamesOf (flat_map part_uses ps) d.names
  pub switches : AreWithin (flat_map part_uses ps) → HasOneEach Switches d.names d.switches
  pub coils : AreWithin (flat_map part_uses ps) → HasOneEach Coils d.names d.coils
  pub counts : HasCounts ps d
  pub plan : All IsKept ps → ((t : Table) → entry_count (plan_by (names_of ps) ps) t ≤ limit_of t)
      → draft_view d ≡ plan_by (names_of ps) ps

-- these parts are added to those before
abbrev pub Adds : (old new : Draft) → List Part → Type 0
Adds old new more = (ps : List Part) → IsDraftOf ps old → IsDraftOf (ps ++ more) new

-- what the pass over the rows answers: the draft of their parts; or that there are too many events, which is the table
-- that is judged first
abbrev pub GivesDraft : Rows → List written.Row → Result Draft PlanFault → Type 0
GivesDraft definitions rows (Ok d) = IsDraftOf (parts_of_rows definitions rows) d
GivesDraft definitions rows (Err faults.NoMemory) = Unit {0}
GivesDraft definitions rows (Err faults.NoSuchName) = ⊥
GivesDraft definitions rows (Err (faults.Limit t)) =
    first_above (plan_by (names_of (parts_of_rows definitions rows)) (parts_of_rows definitions rows)) ≡ Some t

-- ---- pieces of a part

-- the names in `more` are used; modes and the game stay as they are
pub record KeepsTables (old new : Draft) (more : List Use) : Type 0 where
  pub names : Notes old.names new.names more
  pub modes : new.modes ≡ old.modes
  pub game : new.game ≡ old.game

-- bindings are added, and the names that they use; nothing else changes
pub record AddsBindings (old new : Draft) (more : List Use) (gives : Names → List Binding) : Type 0 where
  pub keeps : KeepsTables old new more
  pub switches : new.switches ≡ old.switches
  pub coils : new.coils ≡ old.coils
  pub lists : new.lists ≡ old.lists
  pub rows : new.rows ≡ old.rows
  pub row_lists : new.row_lists ≡ old.row_lists
  pub count : (ns : Names) → length new.bindings.items ≡ length old.bindings.items + length (gives ns)
  pub bindings : (us : List Use) → AreNamesOf us old.names → AreWithin (us ++ more)
      → new.bindings.items ≡ old.bindings.items ++ gives (names_by (us ++ more))

abbrev pub AddsBinding : (old new : Draft) → Whose → Event → Target → Type 0
AddsBinding old new whose e target = AddsBindings old new (event_uses e) (λ ns. binding_of ns whose e target ∷ [])

-- bindings of events that act on this row
abbrev pub AddsActs : (old new : Draft) → Whose → RowId → List (Event × Act) → Type 0
AddsActs old new whose row event_acts =
    AddsBindings old new (flat_map (λ h. event_uses h.0) event_acts)
    (λ ns. map (λ h. binding_of ns whose h.0 (targets.Act row h.1)) event_acts)

-- effect lists of this row
pub record AddsLists (old new : Draft) (row : RowId) (more : List (List Effect)) : Type 0 where
  pub keeps : KeepsTables old new (flat_map (flat_map effect_uses) more)
  pub coils : NotesCoils old.names new.names old.coils new.coils (flat_map (flat_map effect_uses) more)
  pub switches : new.switches ≡ old.switches
  pub bindings : new.bindings ≡ old.bindings
  pub rows : new.rows ≡ old.rows
  pub row_lists : new.row_lists ≡ old.row_lists
  pub count : length new.lists.items ≡ length old.lists.items + length more
  pub lists : (us : List Use) → AreNamesOf us old.names → AreWithin (us ++ flat_map (flat_map effect_uses) more)
      → action_lists new.lists.items
      ≡ action_lists old.lists.items ++ map
      (map (action_of (names_by (us ++ flat_map (flat_map effect_uses) more)) row)) more

-- the row listens to these switches
pub record AddsListeners (old new : Draft) (row : RowId) (listens : List (List ℕ)) : Type 0 where
  pub keeps : KeepsTables old new (uses_of Switches listens)
  pub coils : new.coils ≡ old.coils
  pub lists : new.lists ≡ old.lists
  pub bindings : new.bindings ≡ old.bindings
  pub rows : new.rows ≡ old.rows
  pub row_lists : new.row_lists ≡ old.row_lists
  pub count : IfWithin old.names (uses_of Switches listens)
      (HasOneEach Switches old.names old.switches → HasOneEach Switches new.names new.switches)
  pub listeners : IfWithin old.names (uses_of Switches listens) (HasOneEach Switches old.names old.switches
      → switches_view (kept_names new.names Switches) new.switches.items
      ≡ map (with_listeners row listens)
      (switches_view (kept_names old.names Switches) old.switches.items
      ++ map named_switch (new_names (kept_names old.names Switches) (kept_names new.names Switches))))
