-- The plan of the rows of a configuration, in three steps.
--
-- 1. The entries of the configuration give parts, in order: `parts_of`, in `plan_parts/specs/Parts.antt`. A setting
--    that is not written has the default of its table, in `mpf_tables/specs/SectionTables.antt`.
-- 2. A name's number is its place in the list of first uses: `names_of`.
-- 3. The parts give the tables: `plan_by`. Modes, bindings, rows and effect lists are each one concatenation of what
--    the parts give. Events and variables are names alone. What a switch or a coil is, the part of its name says; what
--    the game is, the part that is the game. The number of a row, and of an effect list, is how many of them come
--    before it: `part_places`.
use Rattle.std.specs.Prelude.{◌≡◌, ℕ, ◌+◌, ◌==◌, ◌||◌, Bool, true, false, if◌then◌else◌, cond, List, [], ◌∷◌, ◌++◌}
use Rattle.std.specs.Prelude.{Option, None, Some, Result, Ok, Err, map, filter, length, option_map, slice_index_or}
use Rattle.std.specs.{Prelude.unwrap_or, List.{flat_map, list_any, last_or, range_with_len}, Str.bytes_eq}
use Rattle.mpf_values.specs.Events.{EventCondition, Event}
use Rattle.mpf_config.specs.Rows.{Rows}
use Rattle.machine_definitions.specs.{GameEvents.game_event_names, Players.player_event}
use Rattle.plan_tables.specs.declared.entries.{EventId.EventId, Listener.Listener, Binding.Binding, Target.Target}
use Rattle.plan_tables.specs.declared.entries.{ListId.ListId, CoilLimits.CoilLimits, Action.Action}
use Rattle.plan_tables.specs.declared.entries.{GameRules.GameRules, ModeEvent.ModeEvent}
use Rattle.plan_tables.specs.declared.entries.ModeEvent.TheVariants.{WillStart, Starting, Started, Stopping, Stopped}
use Rattle.plan_tables.specs.declared.entries.Target.TheVariants as targets
use Rattle.plan_tables.specs.declared.devices.{RowId.RowId, DeviceRow.DeviceRow}
use Rattle.plan_tables.specs.declared.table.Table.{Table, TheVariants.{Events, Switches, Coils, Variables}}
use Rattle.plan_tables.specs.PlanView.{PlanSwitch, no_switch, PlanCoil, no_coil, PlanMode, PlanView}
use Rattle.plan_tables.specs.Limits.{order_of, first_above, IsFirstAbove}
use Rattle.plan_parts.specs.Effects.{mode_event_name, Effect, posts, works, changes, enters}
use Rattle.plan_parts.specs.Parts.{Part, switch, coil, game, mode, handler, device, mention, unknown, Reaction, run}
use Rattle.plan_parts.specs.Parts.{start, stop, act_on, Whose, parts_of}
use Rattle.mpf_plan.specs.{declared.fault.PlanFault.PlanFault, Uses.{Names, first_uses, is_lacking}}
use Rattle.mpf_plan.specs.declared.fault.PlanFault.TheVariants as faults
use Rattle.mpf_plan.specs.ByNumber.{event_of, action_of, condition_of, rules_of}

-- ---- names, in the order of their first uses

-- a name that is used, with its table
abbrev pub Use : Type 0
Use = Table × List ℕ

abbrev pub uses_of : Table → List (List ℕ) → List Use
uses_of table names = map (λ n. (table, n)) names

abbrev pub condition_uses : Option EventCondition → List Use
condition_uses None = []
condition_uses (Some c) = (Variables, c.variable) ∷ []

abbrev pub event_uses : Event → List Use
event_uses e = (Events, e.name) ∷ condition_uses e.condition

abbrev pub effect_uses : Effect → List Use
effect_uses (posts n) = (Events, n) ∷ []
effect_uses (works n deed) = (Coils, n) ∷ []
effect_uses (changes v action number) = (Events, player_event v) ∷ (Variables, v) ∷ []
effect_uses (enters n drain) = (Events, n) ∷ []
effect_uses _ = []

-- the effect lists that a part has
abbrev pub lists_in : Part → List (List Effect)
lists_in (handler whose e (run effects)) = effects ∷ []
lists_in (device whose d) = d.lists
lists_in _ = []

abbrev pub mode_event_names : List ℕ → List (List ℕ)
mode_event_names name = map (λ which. mode_event_name which name)
    (WillStart ∷ Starting ∷ Started ∷ Stopping ∷ Stopped ∷ [])

-- what a part names before its effect lists do: of a device, the switches to which it listens, the events that it
-- handles, with the variables of their conditions, and those that it mentions
abbrev pub settings_uses : Part → List Use
settings_uses (switch name kind confirms active inactive) = (Switches, name) ∷ uses_of Events (active ++ inactive)
settings_uses (coil name limits) = (Coils, name) ∷ []
settings_uses (game min_balls balls_per_game max_players) = uses_of Events game_event_names
settings_uses (mode name s) = uses_of Events (mode_event_names name)
settings_uses (handler whose e reaction) = event_uses e
settings_uses (device whose d) = uses_of Switches d.listens ++ flat_map (λ h. event_uses h.0) d.event_acts
    ++ uses_of Events d.other_mentions
settings_uses (mention table name) = (table, name) ∷ []
settings_uses unknown = []

abbrev pub part_uses : Part → List Use
part_uses part = settings_uses part ++ flat_map (flat_map effect_uses) (lists_in part)

-- the names of one table
abbrev pub in_table : Table → List Use → List (List ℕ)
in_table table us = map (λ u. u.1) (filter (λ u. order_of u.0 == order_of table) us)

unfoldable pub names_of : List Part → Names
names_of parts table = first_uses (in_table table (flat_map part_uses parts))

-- ---- names that nothing has

abbrev pub part_gives : Part → List Use
part_gives (switch name kind confirms active inactive) = (Switches, name) ∷ []
part_gives (coil name limits) = (Coils, name) ∷ []
part_gives _ = []

abbrev pub is_unknown : Part → Bool
is_unknown unknown = true
is_unknown _ = false

-- whether parts name what nothing has: a profile, a shot or a ball device that is unknown, or a switch or a coil that
-- none of the parts is
unfoldable pub lacks_name : List Part → Bool
lacks_name parts =
    list_any is_unknown parts
    || list_any (λ u. is_lacking (λ table. in_table table (flat_map part_gives parts)) u) (flat_map part_uses parts)

-- ---- numbers of rows and of effect lists: how many come before

-- A part, with the numbers of its row and of the first of its effect lists. If it has no row, or no list, it has the
-- number of the next.
pub record PartPlace : Type 0 where
  pub row : RowId
  pub list : ListId
  pub part : Part

abbrev pub row_count : Part → ℕ
row_count (device whose d) = 1
row_count _ = 0

abbrev pub placed_from : (rows lists : ℕ) → List Part → List PartPlace
placed_from rows lists [] = []
placed_from rows lists (p ∷ ps) =
    record { row = record { 0 = rows }; list = record { 0 = lists }; part = p }
    ∷ placed_from (rows + row_count p) (lists + length (lists_in p)) ps

unfoldable pub part_places : List Part → List PartPlace
part_places parts = placed_from 0 0 parts

-- ---- what a part gives to the tables

abbrev pub device_row : RowId → Part → List DeviceRow
device_row row (device whose d) = record { number = row; owner = whose.owner; settings = d.settings } ∷ []
device_row row _ = []

abbrev pub first_list : ListId → Part → List ListId
first_list list (device whose d) = list ∷ []
first_list list _ = []

-- who listens to the switch of this name, if the device in this row listens to these switches: the number of a switch
-- in a row is its place among them
abbrev pub listeners_among : List ℕ → RowId → (listens : List (List ℕ)) → List Listener
listeners_among name row listens =
    map (λ k. record { row = row; switch = k })
    (filter (λ k. bytes_eq name (slice_index_or listens k [])) (range_with_len 0 (length listens)))

abbrev pub listeners : List ℕ → RowId → Part → List Listener
listeners name row (device whose d) = listeners_among name row d.listens
listeners name row _ = []

abbrev pub limits_for : List ℕ → Part → List CoilLimits
limits_for name (coil n limits) = if bytes_eq name n then limits ∷ [] else []
limits_for name _ = []

-- what a handler does; the list is its own, if it has one
abbrev pub target_of : ListId → Reaction → Target
target_of list (run effects) = targets.Run list
target_of list (start m) = targets.Start m
target_of list (stop m) = targets.Stop m
target_of list (act_on row act) = targets.Act row act

module _ (names : Names) where
  abbrev pub binding_of : Whose → Event → Target → Binding
  binding_of whose e target = record {
    event = event_of (names Events) e.name;
    owner = whose.owner;
    priority = whose.priority;
    condition = option_map (condition_of names) e.condition;
    target = target;
  }

  abbrev pub bindings_in : RowId → ListId → Part → List Binding
  bindings_in row list (handler whose e reaction) = binding_of whose e (target_of list reaction) ∷ []
  bindings_in row list (device whose d) = map (λ h. binding_of whose h.0 (targets.Act row h.1)) d.event_acts
  bindings_in row list _ = []

  abbrev pub actions_in : RowId → Part → List (List Action)
  actions_in row part = map (map (action_of names row)) (lists_in part)

  abbrev pub event_for : ModeEvent → List ℕ → EventId
  event_for which name = event_of (names Events) (mode_event_name which name)

  abbrev pub plan_mode : Part → List PlanMode
  plan_mode (mode name s) = record {
    name = name;
    mode = record {
      priority = s.priority;
      game = s.game;
      holds_ball_end = s.holds_ball_end;
      events = record {
        will_start = event_for WillStart name;
        starting = event_for Starting name;
        started = event_for Started name;
        stopping = event_for Stopping name;
        stopped = event_for Stopped name;
      };
    };
  } ∷ []
  plan_mode _ = []

  abbrev pub rules_in : Part → List GameRules
  rules_in (game min_balls balls_per_game max_players) =
      rules_of (names Events) min_balls balls_per_game max_players ∷ []
  rules_in _ = []

  -- the switch of this name, without its listeners
  abbrev pub switch_for : List ℕ → Part → List PlanSwitch
  switch_for name (switch n kind confirms active inactive) =
      if bytes_eq name n
      then record {
        name = name;
        kind = kind;
        listeners = [];
        confirms_playfield = confirms;
        active = map (event_of (names Events)) active;
        inactive = map (event_of (names Events)) inactive;
      } ∷ []
      else []
  switch_for name _ = []

  -- The switch of this name, and the coil. Entries have distinct names, so there is at most one; of two, the last would
  -- count. If there is none, the parts use a name that nothing has, and there is no plan.
  abbrev pub switch_called : List Part → List ℕ → PlanSwitch
  switch_called parts name = record (unwrap_or (last_or None (flat_map (switch_for name) parts))
      (record no_switch { name = name })) {
        listeners = flat_map (λ p. listeners name p.row p.part) (part_places parts);
      }

  abbrev pub coil_called : List Part → List ℕ → PlanCoil
  coil_called parts name =
      record { name = name; limits = unwrap_or (last_or None (flat_map (limits_for name) parts)) no_coil.limits }

  -- ---- the plan

  unfoldable pub plan_by : List Part → PlanView
  plan_by parts = record {
    modes = flat_map plan_mode parts;
    events = names Events;
    switches = map (switch_called parts) (names Switches);
    coils = map (coil_called parts) (names Coils);
    lists = flat_map (λ p. actions_in p.row p.part) (part_places parts);
    bindings = flat_map (λ p. bindings_in p.row p.list p.part) (part_places parts);
    rows = flat_map (λ p. device_row p.row p.part) (part_places parts);
    row_lists = flat_map (λ p. first_list p.list p.part) (part_places parts);
    variables = names Variables;
    game = last_or None (flat_map rules_in parts);
  }

-- why rows have no plan: they use a name that nothing has, or a table is above its limit
pub data PlanRefusal : Type 0 where
  no_such_name : PlanRefusal
  above_limit : Table → PlanRefusal

-- the plan, unless a table is above its limit
abbrev pub fitting : PlanView → Option Table → Result PlanView PlanRefusal
fitting plan None = Ok plan
fitting plan (Some t) = Err (above_limit t)

-- the plan of the rows
unfoldable pub plan_of : Rows → PlanView
plan_of rows = plan_by (names_of (parts_of rows)) (parts_of rows)

-- the plan; or that the rows use a name that nothing has; or the first of the tables that is above its limit
unfoldable pub plan_at : Rows → Result PlanView PlanRefusal
plan_at rows = cond (lacks_name (parts_of rows)) (Err no_such_name)
    (fitting (plan_of rows) (first_above (plan_of rows)))

-- the table is the first of the rows' plan that is above its limit
abbrev pub IsExceeded : Rows → Table → Type 0
IsExceeded rows t = IsFirstAbove (plan_of rows) t

-- An answer is what planning gives, unless memory ran out.
abbrev pub GivesPlan : Result PlanView PlanFault → Result PlanView PlanRefusal → Type 0
GivesPlan (Ok p) plan = plan ≡ Ok p
GivesPlan (Err faults.NoMemory) plan = Unit {0}
GivesPlan (Err faults.NoSuchName) plan = plan ≡ Err no_such_name
GivesPlan (Err (faults.Limit t)) plan = plan ≡ Err (above_limit t)
