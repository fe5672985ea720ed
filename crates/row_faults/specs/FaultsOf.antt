-- The faults of sections and entries as the code has them, and what its lists and sets gain.
use Rattle.std.specs.Prelude.{◌≡◌, ◌⊎◌, ◌||◌, ℕ, Bool, List, [], ◌++◌, length, map, filter, codes, Option, Some}
use Rattle.std.specs.{Prelude.option_map, BTreeSet.BTreeSet, declared.borrow.CowSlice.CowSlice}
use Rattle.std.specs.{List.{flat_map, list_any}, HashMap.HashMap, HashSet.HashSet}
use Rattle.std.specs.{Str.bytes_eq, Borrow.Bor, Global.{Vec, Global}}
use Rattle.yaml_subset.specs.Keys.{is_among, copies_view}
use Rattle.setting_values.specs.declared.values.Name.{Name}
use Rattle.section_tables.specs.declared.rows.Entry as entry_rows
use Rattle.setting_values.specs.declared.values.KeyedValues as keyed_rows
use Rattle.mpf_sections.specs.declared.{section.Section.Section, typed.NameAt.NameAt}
use Rattle.mpf_sections.specs.declared.coils.Coil as typed_coils
use Rattle.mpf_sections.specs.declared.coils.CoilItem as typed_coil_items
use Rattle.mpf_sections.specs.declared.coil_rules.CoilRule as typed_coil_rules
use Rattle.mpf_sections.specs.declared.balls.BallDeviceEntry as typed_balls
use Rattle.mpf_sections.specs.declared.game.VariableItem as typed_variable_items
use Rattle.mpf_sections.specs.declared.shots.Shot as typed_shots
use Rattle.mpf_sections.specs.declared.shots.ShotGroup as typed_groups
use Rattle.mpf_sections.specs.{Rows.{WrittenName, BallDeviceEntry, ShotGroup}, CoilRules.{coil_rule_of, coil_rule_view}}
use Rattle.mpf_sections.specs.{TypedGame.variable_item_of, TypedBalls.ball_devices_in}
use Rattle.mpf_sections.specs.TypedShots.{shot_of, shots_in, shot_groups_in}
use Rattle.mpf_sections.specs.Typed.{step_block_of, entries_in, switches_in, event_players_in, counters_in, timers_in}
use Rattle.mpf_sections.specs.TypedCoils.{coils_in, coil_item_of, coil_players_in}
use Rattle.mpf_sections.specs.View.{name_view, name_at_view, entry_view, keyed_view, content_view, section_view}
use Rattle.mpf_sections.specs.View.{coil_view, coil_item_view, ball_device_view}
use Rattle.mpf_sections.specs.View.{variable_item_view, shot_view, shot_group_view}
use Rattle.mpf_config.specs.{declared.config.ModeText.ModeText, Rows.Rows, View.mode_view}
use Rattle.machine_definitions.specs.{Definitions.ball_devices_of, Found.{is_found, section_rows}}
use Rattle.row_faults.specs.declared.fault.{RowFault.RowFault, RowFaultKind.RowFaultKind}
use Rattle.row_faults.specs.{declared.as_written.NamedThing.NamedThing, RowFaults.{text_faults, mode_faults}}
use Rattle.row_faults.specs.{FaultView.RowFaultView, Named.named_faults, CoilFaults.{named_switch_faults, rule_faults}}
use Rattle.row_faults.specs.declared.fault.RowFaultKind.TheVariants.{Name as a_name, PulseLimit, PowerLimit}
use Rattle.row_faults.specs.declared.fault.RowFaultKind.TheVariants.{HoldNotAllowed, TimerAtEnd, BallRoute}
use Rattle.row_faults.specs.{FaultText.row_fault_line, AsWritten.{ordered_by, in_order}}
use Rattle.row_faults.specs.Reserved.{events_of_modes, switch_posts, player_posts, counter_posts, step_posts, posts_in}
use Rattle.row_faults.specs.VariableFaults.{variable_item_faults, variable_faults}
use Rattle.row_faults.specs.CoilFaults.{fault_if, coil_name_faults, switch_name_faults, coil_faults, item_faults_by}
use Rattle.row_faults.specs.CoilFaults.{item_faults, coil_player_faults, hold_faults_by, hold_faults, coil_rule_faults}
use Rattle.row_faults.specs.ShotFaults.{profile_faults, shot_faults, ListedShot, listed_with}
use Rattle.row_faults.specs.ShotFaults.{listed_by, listed_in, listed_of, is_own_shot, is_misplaced, taken_after}
use Rattle.row_faults.specs.BallFaults.{eject_coil_faults, target_faults, ball_device_faults, route_faults}
use Rattle.row_faults.specs.RowFaults.{starts_at_end, timer_fault, coil_faults_in, section_faults, written_faults}
use Rattle.row_faults.specs.{Numbers.{number_found, number_of}, Collected.{FaultsView, group_faults}}
use Rattle.row_faults.specs.View.{row_fault_view, row_faults_view, events_view, devices_view}

-- ---- coils

-- all that a section says of coils
abbrev pub faults_about_coils : FaultsView → Section → List RowFaultView
faults_about_coils f s = coil_faults_in f.rows.machine f.text (section_view s)

abbrev pub faults_of_coil_name : FaultsView → NameAt → List RowFaultView
faults_of_coil_name f name = coil_name_faults f.rows.machine f.text (name_at_view name)

abbrev pub faults_of_switch_name : FaultsView → NameAt → List RowFaultView
faults_of_switch_name f name = switch_name_faults f.rows.machine f.text (name_at_view name)

abbrev pub faults_of_coils : FaultsView → Section → List RowFaultView
faults_of_coils f s = flat_map (coil_faults f.text) (coils_in (section_view s))

abbrev pub faults_of_coil : FaultsView → typed_coils.Coil → List RowFaultView
faults_of_coil f c = coil_faults f.text (coil_view c)

abbrev pub faults_of_coil_players : FaultsView → Section → List RowFaultView
faults_of_coil_players f s = flat_map (coil_player_faults f.rows.machine f.text) (coil_players_in (section_view s))

abbrev pub faults_of_coil_items : FaultsView → List keyed_rows.KeyedValues → List RowFaultView
faults_of_coil_items f items = flat_map (item_faults f.rows.machine f.text) (map coil_item_of (map keyed_view items))

-- of an item, and of one by the limits of its coil
abbrev pub faults_of_coil_item : FaultsView → typed_coil_items.CoilItem → List RowFaultView
faults_of_coil_item f item = item_faults f.rows.machine f.text (coil_item_view item)

abbrev pub faults_by_limits : FaultsView → typed_coil_items.CoilItem → typed_coils.Coil → List RowFaultView
faults_by_limits f item c = item_faults_by f.text (coil_item_view item) (Some (coil_view c))

-- of the coil rules of a section, and of this entry of a section of this name
abbrev pub faults_of_rules : FaultsView → Section → List RowFaultView
faults_of_rules f s = flat_map (λ e. rule_faults f.rows.machine f.text (coil_rule_of s.name.items e))
    (entries_in (content_view s.content))

abbrev pub faults_of_rule : FaultsView → List ℕ → entry_rows.Entry → List RowFaultView
faults_of_rule f section entry = rule_faults f.rows.machine f.text (coil_rule_of section (entry_view entry))

abbrev pub faults_of_coil_rule : FaultsView → typed_coil_rules.CoilRule → List RowFaultView
faults_of_coil_rule f rule = coil_rule_faults f.rows.machine f.text (coil_rule_view rule)

-- of the coil that an entry at this line holds, if it holds one; of the coil of this name
abbrev pub faults_of_hold_coil : FaultsView → ℕ → Option NameAt → List RowFaultView
faults_of_hold_coil f line hold = hold_faults f.rows.machine f.text line (option_map name_at_view hold)

abbrev pub faults_by_hold_limits : FaultsView → ℕ → NameAt → Option typed_coils.Coil → List RowFaultView
faults_by_hold_limits f line hold c = hold_faults_by f.text line (name_at_view hold) (option_map coil_view c)

-- ---- ball devices

abbrev pub faults_of_ball_devices : FaultsView → Section → List RowFaultView
faults_of_ball_devices f s = flat_map (ball_device_faults f.rows.machine f.text) (ball_devices_in (section_view s))

abbrev pub faults_of_ball_device : FaultsView → typed_balls.BallDeviceEntry → List RowFaultView
faults_of_ball_device f b = ball_device_faults f.rows.machine f.text (ball_device_view b)

abbrev pub faults_of_switch_names : FaultsView → List Name → List RowFaultView
faults_of_switch_names f ns = flat_map (switch_name_faults f.rows.machine f.text) (map name_view ns)

abbrev pub faults_of_eject_coil : FaultsView → Option NameAt → List RowFaultView
faults_of_eject_coil f coil = eject_coil_faults f.rows.machine f.text (option_map name_at_view coil)

abbrev pub faults_of_target : FaultsView → NameAt → List RowFaultView
faults_of_target f target = target_faults f.rows.machine f.text (name_at_view target)

-- of the ways of balls
abbrev pub faults_of_routes : FaultsView → List Section → List RowFaultView
faults_of_routes f sections = route_faults f.text (ball_devices_of (section_rows sections))

-- the texts of names
abbrev pub texts_of : List Name → List (List ℕ)
texts_of ns = map (λ w. w.text) (map name_view ns)

-- a list of ball devices has grown by these
abbrev pub GainsDeviceList : Vec typed_balls.BallDeviceEntry → Vec typed_balls.BallDeviceEntry → List BallDeviceEntry
    → Type 0
GainsDeviceList old new more = devices_view new.items ≡ devices_view old.items ++ more

-- the numbers of their targets
abbrev pub numbers_of_targets : {S : Type 0} → HashMap (Bor (List ℕ)) ℕ S → List typed_balls.BallDeviceEntry → List ℕ
numbers_of_targets numbers devices = map (λ d. number_of (number_found numbers) (length devices) d.target.text)
    (devices_view devices)

-- ---- variables

abbrev pub faults_of_variables : FaultsView → Section → List RowFaultView
faults_of_variables f s = variable_faults f.modes f.text (section_view s)

abbrev pub faults_of_variable_items : FaultsView → List keyed_rows.KeyedValues → List RowFaultView
faults_of_variable_items f items = flat_map (variable_item_faults f.modes f.text)
    (map variable_item_of (map keyed_view items))

abbrev pub faults_of_variable_item : FaultsView → typed_variable_items.VariableItem → List RowFaultView
faults_of_variable_item f item = variable_item_faults f.modes f.text (variable_item_view item)

-- ---- shots, and the shots that groups list

abbrev pub faults_of_shots : FaultsView → Section → List RowFaultView
faults_of_shots f s = flat_map (shot_faults f.rows f.text) (shots_in (section_view s))

abbrev pub faults_of_shot : FaultsView → typed_shots.Shot → List RowFaultView
faults_of_shot f s = shot_faults f.rows f.text (shot_view s)

abbrev pub faults_of_profile : FaultsView → NameAt → List RowFaultView
faults_of_profile f name = profile_faults f.rows f.text (name_at_view name)

abbrev pub faults_of_shot_switch : FaultsView → Option NameAt → List RowFaultView
faults_of_shot_switch f switch = named_switch_faults f.rows.machine f.text (option_map name_at_view switch)

-- what the groups of sections list, of one section, and one group; and these names, if a group lists this shot first
abbrev pub listed_by_sections : Rows → List Section → List ListedShot
listed_by_sections rows sections = listed_of rows (section_rows sections)

abbrev pub listed_by_section : Rows → Section → List ListedShot
listed_by_section rows s = listed_in rows (section_view s)

abbrev pub listed_by_group : Rows → typed_groups.ShotGroup → List ListedShot
listed_by_group rows g = listed_by rows (shot_group_view g)

abbrev pub names_listed : Option typed_shots.Shot → List Name → List ListedShot
names_listed first ns = listed_with (option_map shot_view first) (map name_view ns)

-- the faults of what is listed, if the text defines its own shots and others are taken
abbrev pub faults_of_listed : {S : Type 0} → FaultsView → HashSet (Bor (List ℕ)) S → HashSet (Bor (List ℕ)) S
    → List ListedShot → List RowFaultView
faults_of_listed f own before group_names = group_faults f (is_found own) (is_found before) group_names

-- the shots that are listed are taken too
abbrev pub Takes : {S : Type 0} → HashSet (Bor (List ℕ)) S → HashSet (Bor (List ℕ)) S → List ListedShot → Type 0
Takes old new group_names = is_found new ≡ taken_after (is_found old) group_names

-- whether a group may not list the shot of this name
abbrev pub is_misplaced_name : {S : Type 0} → FaultsView → HashSet (Bor (List ℕ)) S → HashSet (Bor (List ℕ)) S
    → Option typed_shots.Shot → ℕ → List ℕ → Bool
is_misplaced_name f own before first line name =
    is_misplaced f.rows (is_found own) (is_found before)
    (record { first = option_map shot_view first; shot = record { line = line; text = name } })

-- by each name is found whether the sections define a shot of this name; whether one of these entries does
abbrev pub HasOwnShots : {S : Type 0} → List Section → HashSet (Bor (List ℕ)) S → Type 0
HasOwnShots sections shots = (name : List ℕ) → is_found shots name ≡ is_own_shot (section_rows sections) name

-- the groups of these sections
abbrev pub groups_among : List Section → List ShotGroup
groups_among sections = flat_map shot_groups_in (section_rows sections)

-- so it is unless the sections have no groups
abbrev pub HasShotsForGroups : {S : Type 0} → List Section → HashSet (Bor (List ℕ)) S → Type 0
HasShotsForGroups sections shots = (groups_among sections ≡ []) ⊎ HasOwnShots sections shots

abbrev pub defines_shot : List entry_rows.Entry → List ℕ → Bool
defines_shot entries name = list_any (λ s. bytes_eq name s.name.text) (map shot_of (map entry_view entries))

-- ---- posts of reserved events

-- what a section posts; what of it switches post, event players, counters, and these accruals or sequences
abbrev pub posts_by_section : Section → List WrittenName
posts_by_section s = posts_in (section_view s)

abbrev pub posts_of_switches : Section → List WrittenName
posts_of_switches s = flat_map switch_posts (switches_in (section_view s))

abbrev pub posts_of_players : Section → List WrittenName
posts_of_players s = flat_map player_posts (event_players_in (section_view s))

abbrev pub posts_of_counters : Section → List WrittenName
posts_of_counters s = flat_map counter_posts (counters_in (section_view s))

abbrev pub posts_of_steps : List entry_rows.Entry → List WrittenName
posts_of_steps entries = flat_map step_posts (map step_block_of (map entry_view entries))

-- what the settings of an entry post, as they are written, and as they are given; and these names
abbrev pub posts_in_order : List ℕ → List (ℕ × Bor (List Name)) → List WrittenName
posts_in_order order parts = in_order order (map (λ part. (part.0, map name_view part.1.now)) parts)

abbrev pub posts_of_parts : List (ℕ × Bor (List Name)) → List WrittenName
posts_of_parts parts = flat_map (λ part. map name_view part.1.now) parts

abbrev pub posts_of_names : List Name → List WrittenName
posts_of_names ns = map name_view ns

-- a set has these events
abbrev pub HasEvents : BTreeSet (Vec ℕ) → List (List ℕ) → Type 0
HasEvents set events = (q : List ℕ) → is_among (events_view set) q ≡ is_among events q

-- a set has gained these events
abbrev pub GainsEvents : BTreeSet (Vec ℕ) → BTreeSet (Vec ℕ) → List (List ℕ) → Type 0
GainsEvents old new more = HasEvents new (more ++ events_view old)

-- the events of the modes that are listed, and of those that have texts
abbrev pub events_of_listed : List Name → List (List ℕ)
events_of_listed ns = events_of_modes (texts_of ns)

abbrev pub events_of_texts : List ModeText → List (List ℕ)
events_of_texts texts = events_of_modes (map (λ m. m.name) (map mode_view texts))

-- ---- entries, sections and texts

-- what the settings of an entry name, as they are written, and as they are given
abbrev pub faults_in_order : FaultsView → List ℕ → List (ℕ × NamedThing) → List RowFaultView
faults_in_order f order parts = in_order order (map (λ part. (part.0, named_faults f.rows f.text part.1)) parts)

abbrev pub faults_of_parts : FaultsView → List (ℕ × NamedThing) → List RowFaultView
faults_of_parts f parts = flat_map (λ part. named_faults f.rows f.text part.1) parts

-- a fault of this name, if something is wrong
abbrev pub fault_where : FaultsView → Bool → RowFaultKind → NameAt → List RowFaultView
fault_where f wrong kind name = fault_if wrong kind f.text (name_at_view name)

abbrev pub faults_of_timers : FaultsView → Section → List RowFaultView
faults_of_timers f s = map (timer_fault f.text) (filter starts_at_end (timers_in (section_view s)))

abbrev pub faults_of_section : {S : Type 0} → FaultsView → HashSet (Bor (List ℕ)) S → HashSet (Bor (List ℕ)) S → Section
    → List RowFaultView
faults_of_section f own before s = section_faults f.modes f.rows (is_found own) (is_found before) f.text
    (section_view s)

abbrev pub faults_of_sections : {S : Type 0} → FaultsView → HashSet (Bor (List ℕ)) S → HashSet (Bor (List ℕ)) S
    → List Section → List RowFaultView
faults_of_sections f own before sections =
    written_faults f.modes f.rows (is_found own) (is_found before) f.text (section_rows sections)

abbrev pub faults_of_text : {S : Type 0} → BTreeSet (Vec ℕ) → Rows → HashSet (Bor (List ℕ)) S → List ℕ → List Section
    → List RowFaultView
faults_of_text modes rows before text sections =
    text_faults (events_view modes) rows (is_found before) text (section_rows sections)

abbrev pub faults_of_modes : {S : Type 0} → BTreeSet (Vec ℕ) → Rows → HashSet (Bor (List ℕ)) S → List ModeText
    → List RowFaultView
faults_of_modes modes rows before texts = mode_faults (events_view modes) rows (is_found before) (map mode_view texts)

-- a list of faults has grown by these
abbrev pub GainsFaults : Vec RowFault → Vec RowFault → List RowFaultView → Type 0
GainsFaults old new more = row_faults_view new.items ≡ row_faults_view old.items ++ more

-- a list of faults has been sorted by this number of each
abbrev pub Sorts : (RowFaultView → ℕ) → Vec RowFault → Vec RowFault → Type 0
Sorts number old new = row_faults_view new.items ≡ ordered_by number (row_faults_view old.items)

-- the line of a fault in the report
abbrev pub printed_line : RowFault → List ℕ
printed_line fault = row_fault_line (row_fault_view fault)

-- a set of lines has gained this one
abbrev pub GainsLine : {S : Type 0} → HashSet (CowSlice ℕ Global) S → HashSet (CowSlice ℕ Global) S → List ℕ → Type 0
GainsLine old new line = (q : List ℕ) → is_among (copies_view new) q ≡ (bytes_eq line q || is_among (copies_view old) q)

-- ---- what is printed

-- the title of a fault with the space behind it, letter by letter
abbrev pub title_text : RowFaultKind → List ℕ
title_text a_name = codes "fault 1 Name "
title_text PulseLimit = codes "fault 2 PulseLimit "
title_text PowerLimit = codes "fault 3 PowerLimit "
title_text HoldNotAllowed = codes "fault 4 HoldNotAllowed "
title_text TimerAtEnd = codes "fault 5 TimerAtEnd "
title_text BallRoute = codes "fault 6 BallRoute "
