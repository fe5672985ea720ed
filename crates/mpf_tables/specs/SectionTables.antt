-- The tables of the sections: what settings each has. The order decides which of several missing settings is reported.
use Rattle.std.specs.Prelude.{ℕ, pos, negsuc, true, false, if◌then◌else◌, List, [], ◌∷◌, Option, Some, None, codes}
use Rattle.std.specs.Str.{bytes_eq}
use Rattle.setting_values.specs.Values.{nothing, flag, number, time, power, word, name, one, names, posts, events, maps}
use Rattle.setting_values.specs.Values.{written_at, handled_at}
use Rattle.mpf_tables.specs.declared.tables.TextKind.{TextKind, TheVariants.{Machine, Mode}}
use Rattle.setting_values.specs.Kinds.{Scalar, a_flag, number_within, time_within, a_power, one_of, a_name, an_event}
use Rattle.setting_values.specs.Kinds.{at_least, between, Absent, mandatory, default, KeyRule, Field, single, name_list}
use Rattle.setting_values.specs.Kinds.{post_list, event_list, step_list, map_list, named_maps, keyed_maps}
use Rattle.section_tables.specs.Shapes.{Setting, PlayerKinds, Shape, by_entries, by_players, by_entry, by_names}

abbrev row : {K V : Type 0} → List ℕ → K → Absent V → KeyRule K V
row key kind absent = record { key = key; kind = kind; absent = absent }

-- names, none by default
abbrev naming : List ℕ → Setting
naming key = row key (name_list (at_least 0)) (default (names []))

-- handled events, none by default
abbrev handling : List ℕ → Setting
handling key = row key (event_list (at_least 0)) (default (events []))

-- posted events, none by default
abbrev posting : List ℕ → Setting
posting key = row key (post_list (at_least 0)) (default (posts []))

-- one of these words, the first by default
abbrev choice : List ℕ → List ℕ → List (List ℕ) → Setting
choice key first others = row key (single (one_of (first ∷ others))) (default (one (word first)))

-- ---- sections

abbrev pub switches : List Setting
switches =
    choice (codes "type") (codes "NO") (codes "NC" ∷ [])
    ∷ choice (codes "debounce") (codes "auto") (codes "quick" ∷ codes "normal" ∷ [])
    ∷ naming (codes "tags")
    ∷ posting (codes "events_when_activated")
    ∷ posting (codes "events_when_deactivated")
    ∷ []

-- yes by default
abbrev yes : List ℕ → Setting
yes key = row key (single a_flag) (default (one (flag true)))

-- no by default
abbrev no : List ℕ → Setting
no key = row key (single a_flag) (default (one (flag false)))

-- the settings of a mode itself
abbrev pub mode : List Setting
mode =
    handling (codes "start_events")
    ∷ handling (codes "stop_events")
    ∷ row (codes "priority") (single (number_within (pos 0) (pos 1000000))) (default (one (number (pos 100))))
    ∷ yes (codes "game_mode")
    ∷ yes (codes "stop_on_ball_end")
    ∷ no (codes "use_wait_queue")
    ∷ []

-- the length of a pulse
abbrev a_pulse : Scalar
a_pulse = time_within 1 5000

-- full power by default
abbrev full_power : List ℕ → Setting
full_power key = row key (single a_power) (default (one (power 1000)))

-- a text of this kind, which may be left out
abbrev optional : List ℕ → Scalar → Setting
optional key kind = row key (single kind) (default (one nothing))

abbrev pub coils : List Setting
coils =
    row (codes "default_pulse_ms") (single a_pulse) (default (one (time 10)))
    ∷ optional (codes "max_pulse_ms") a_pulse
    ∷ full_power (codes "default_pulse_power")
    ∷ full_power (codes "max_pulse_power")
    ∷ no (codes "allow_enable")
    ∷ optional (codes "default_hold_power") a_power
    ∷ optional (codes "max_hold_power") a_power
    ∷ []

-- a name that has to be written
abbrev needed_name : List ℕ → Setting
needed_name key = row key (single a_name) mandatory

-- handled events, this one by default, without a condition
abbrev handling_else : List ℕ → List ℕ → Setting
handling_else key first = row key (event_list (at_least 0))
    (default (events (handled_at 0 (record { name = first; condition = None }) ∷ [])))

-- the events that enable and disable a coil rule: by default when a ball starts, and when it ends
abbrev pub rule_events : List Setting
rule_events =
    handling_else (codes "enable_events") (codes "ball_started")
    ∷ handling_else (codes "disable_events") (codes "ball_will_end")
    ∷ []

abbrev pub flippers : List Setting
flippers =
    needed_name (codes "main_coil")
    ∷ optional (codes "hold_coil") a_name
    ∷ needed_name (codes "activation_switch")
    ∷ rule_events

abbrev pub autofire_coils : List Setting
autofire_coils = needed_name (codes "coil") ∷ needed_name (codes "switch") ∷ rule_events

-- a number of a setting
abbrev any_number : Scalar
any_number = number_within (negsuc 999999999) (pos 1000000000)

-- 0 by default
abbrev from_zero : List ℕ → Setting
from_zero key = row key (single any_number) (default (one (number (pos 0))))

-- which way a value goes
abbrev direction : Setting
direction = choice (codes "direction") (codes "up") (codes "down" ∷ [])

-- the settings that all logic blocks have
abbrev pub block : List Setting
block =
    yes (codes "reset_on_complete")
    ∷ yes (codes "disable_on_complete")
    ∷ no (codes "persist_state")
    ∷ handling (codes "enable_events")
    ∷ handling (codes "disable_events")
    ∷ handling (codes "reset_events")
    ∷ handling (codes "restart_events")
    ∷ posting (codes "events_when_hit")
    ∷ posting (codes "events_when_complete")
    ∷ []

abbrev pub counters : List Setting
counters =
    row (codes "count_events") (event_list (at_least 0)) mandatory
    ∷ from_zero (codes "starting_count")
    ∷ row (codes "count_interval") (single (number_within (pos 1) (pos 1000000))) (default (one (number (pos 1))))
    ∷ optional (codes "count_complete_value") any_number
    ∷ direction
    ∷ row (codes "multiple_hit_window") (single (time_within 0 4294967295)) (default (one (time 0)))
    ∷ block

-- the settings of accruals, and of sequences: 16 steps at most
abbrev pub step_blocks : List Setting
step_blocks = row (codes "events") (step_list (between 0 16)) mandatory ∷ block

-- an event that controls a timer
abbrev pub control_events : List Field
control_events =
    row (codes "event") an_event mandatory
    ∷ row (codes "action") (one_of (codes "start" ∷ codes "stop" ∷ codes "pause" ∷ codes "reset" ∷ codes "restart"
    ∷ codes "add" ∷ codes "subtract" ∷ codes "jump" ∷ [])) mandatory
    ∷ row (codes "value") any_number (default (number (pos 0)))
    ∷ []

-- a time of at least a millisecond, this one by default
abbrev some_time : List ℕ → ℕ → Setting
some_time key otherwise = row key (single (time_within 1 4294967295)) (default (one (time otherwise)))

abbrev pub timers : List Setting
timers =
    from_zero (codes "start_value")
    ∷ optional (codes "end_value") any_number
    ∷ direction
    ∷ some_time (codes "tick_interval") 1000
    ∷ no (codes "start_running")
    ∷ no (codes "restart_on_complete")
    ∷ row (codes "control_events") (map_list control_events false (at_least 0)) (default (maps []))
    ∷ []

-- the name of the profile that there always is, so no entry has it
abbrev pub default_profile : List ℕ
default_profile = codes "default"

abbrev pub shots : List Setting
shots =
    optional (codes "switch") a_name
    ∷ handling (codes "hit_events")
    ∷ row (codes "profile") (single a_name) (default (one (name (written_at 0 default_profile))))
    ∷ handling (codes "advance_events")
    ∷ handling (codes "reset_events")
    ∷ handling (codes "enable_events")
    ∷ handling (codes "disable_events")
    ∷ []

-- 1 to 16 shots
abbrev pub shot_groups : List Setting
shot_groups =
    row (codes "shots") (name_list (between 1 16)) mandatory
    ∷ handling (codes "rotate_events")
    ∷ handling (codes "rotate_right_events")
    ∷ handling (codes "rotate_left_events")
    ∷ handling (codes "reset_events")
    ∷ []

-- a state of a profile
abbrev pub profile_state : List Field
profile_state = row (codes "name") a_name mandatory ∷ []

-- 1 to 16 states, of which each has a name of its own
abbrev pub shot_profiles : List Setting
shot_profiles =
    row (codes "states") (named_maps profile_state true (between 1 16)) mandatory
    ∷ yes (codes "advance_on_hit")
    ∷ no (codes "loop")
    ∷ []

-- an event, and what is posted when it is handled
abbrev pub event_player : PlayerKinds
event_player = record { key = an_event; value = post_list (at_least 0) }

-- what a coil does
abbrev coil_action : Scalar
coil_action = one_of (codes "pulse" ∷ codes "enable" ∷ codes "disable" ∷ [])

-- what belongs to a coil in an entry of `coil_player`
abbrev pub coil_item : List Field
coil_item =
    row (codes "action") coil_action mandatory
    ∷ row (codes "pulse_ms") a_pulse (default nothing)
    ∷ row (codes "pulse_power") a_power (default nothing)
    ∷ row (codes "hold_power") a_power (default nothing)
    ∷ []

-- an event, and what coils do when it is handled; an action may stand alone
abbrev pub coil_player : PlayerKinds
coil_player = record { key = an_event; value = keyed_maps coil_item 0 coil_action }

-- what belongs to a variable in an entry of `variable_player`
abbrev pub variable_item : List Field
variable_item =
    row (codes "int") any_number mandatory
    ∷ row (codes "action") (one_of (codes "add" ∷ codes "set" ∷ [])) (default (word (codes "add")))
    ∷ []

-- an event, and what is done with variables when it is handled; a number may stand alone
abbrev pub variable_player : PlayerKinds
variable_player = record { key = an_event; value = keyed_maps variable_item 0 any_number }

-- a whole number in this range, this one by default
abbrev whole : List ℕ → ℕ → ℕ → ℕ → Setting
whole key least greatest otherwise = row key (single (number_within (pos least) (pos greatest)))
    (default (one (number (pos otherwise))))

-- the name of the playfield: balls are ejected to it if nothing else is said, so no device has it
abbrev pub playfield : List ℕ
playfield = codes "playfield"

-- at most 16 ball switches; without a limit on attempts, there are 0
abbrev pub ball_devices : List Setting
ball_devices =
    row (codes "ball_switches") (name_list (between 0 16)) mandatory
    ∷ optional (codes "eject_coil") a_name
    ∷ row (codes "eject_targets") (single a_name) (default (one (name (written_at 0 playfield))))
    ∷ some_time (codes "eject_timeouts") 10000
    ∷ some_time (codes "entrance_count_delay") 500
    ∷ some_time (codes "exit_count_delay") 500
    ∷ no (codes "mechanical_eject")
    ∷ whole (codes "max_eject_attempts") 0 1000 0
    ∷ naming (codes "tags")
    ∷ []

-- a time, 0 by default
abbrev any_time : List ℕ → Setting
any_time key = row key (single (time_within 0 4294967295)) (default (one (time 0)))

-- without an end of the time that it is active, that is 0; it saves 1 to 99 balls
abbrev pub ball_saves : List Setting
ball_saves =
    any_time (codes "active_time")
    ∷ whole (codes "balls_to_save") 1 99 1
    ∷ handling (codes "enable_events")
    ∷ handling (codes "disable_events")
    ∷ []

-- 2 to 99 balls
abbrev pub multiballs : List Setting
multiballs = row (codes "ball_count") (single (number_within (pos 2) (pos 99))) mandatory
    ∷ handling (codes "start_events") ∷ []

-- what holds of the whole machine
abbrev pub machine : List Setting
machine = whole (codes "min_balls") 0 99 1 ∷ []

-- the settings of the game
abbrev pub game : List Setting
game = whole (codes "balls_per_game") 1 99 3 ∷ whole (codes "max_players") 1 4 4 ∷ []

-- ---- by name

abbrev pub switches_name : List ℕ
switches_name = codes "switches"

abbrev pub event_player_name : List ℕ
event_player_name = codes "event_player"

abbrev pub coils_name : List ℕ
coils_name = codes "coils"

abbrev pub flippers_name : List ℕ
flippers_name = codes "flippers"

abbrev pub autofire_coils_name : List ℕ
autofire_coils_name = codes "autofire_coils"

abbrev pub ball_devices_name : List ℕ
ball_devices_name = codes "ball_devices"

abbrev pub coil_player_name : List ℕ
coil_player_name = codes "coil_player"

abbrev pub variable_player_name : List ℕ
variable_player_name = codes "variable_player"

abbrev pub counters_name : List ℕ
counters_name = codes "counters"

abbrev pub accruals_name : List ℕ
accruals_name = codes "accruals"

abbrev pub sequences_name : List ℕ
sequences_name = codes "sequences"

abbrev pub timers_name : List ℕ
timers_name = codes "timers"

abbrev pub shots_name : List ℕ
shots_name = codes "shots"

abbrev pub shot_groups_name : List ℕ
shot_groups_name = codes "shot_groups"

abbrev pub shot_profiles_name : List ℕ
shot_profiles_name = codes "shot_profiles"

abbrev pub ball_saves_name : List ℕ
ball_saves_name = codes "ball_saves"

abbrev pub multiballs_name : List ℕ
multiballs_name = codes "multiballs"

-- the list of modes
abbrev pub modes_name : List ℕ
modes_name = codes "modes"

-- the settings of a mode itself
abbrev pub mode_name : List ℕ
mode_name = codes "mode"

-- what holds of the whole machine
abbrev pub machine_section_name : List ℕ
machine_section_name = codes "machine"

-- the settings of the game
abbrev pub game_name : List ℕ
game_name = codes "game"

-- the name that no device has
abbrev pub not_a_device : List (List ℕ)
not_a_device = playfield ∷ []

-- the sections of ball saves and multiballs, each with how it is written
abbrev pub save_shapes : List (List ℕ × Shape)
save_shapes =
    (ball_saves_name, by_entries not_a_device ball_saves)
    ∷ (multiballs_name, by_entries not_a_device multiballs)
    ∷ []

-- those of shots, and of what saves and adds balls
abbrev pub shot_shapes : List (List ℕ × Shape)
shot_shapes =
    (shots_name, by_entries not_a_device shots)
    ∷ (shot_groups_name, by_entries not_a_device shot_groups)
    ∷ (shot_profiles_name, by_entries (default_profile ∷ []) shot_profiles)
    ∷ save_shapes

-- those of logic blocks, and of shots and the like
abbrev pub block_shapes : List (List ℕ × Shape)
block_shapes =
    (counters_name, by_entries not_a_device counters)
    ∷ (accruals_name, by_entries not_a_device step_blocks)
    ∷ (sequences_name, by_entries not_a_device step_blocks)
    ∷ shot_shapes

-- those of texts of both kinds
abbrev pub shared_shapes : List (List ℕ × Shape)
shared_shapes =
    (event_player_name, by_players event_player)
    ∷ (variable_player_name, by_players variable_player)
    ∷ (coil_player_name, by_players coil_player)
    ∷ block_shapes

-- those of devices that the machine text alone has, and those of both texts
abbrev pub device_shapes : List (List ℕ × Shape)
device_shapes =
    (flippers_name, by_entries not_a_device flippers)
    ∷ (autofire_coils_name, by_entries not_a_device autofire_coils)
    ∷ (ball_devices_name, by_entries not_a_device ball_devices)
    ∷ shared_shapes

-- the sections of the machine text
abbrev pub machine_shapes : List (List ℕ × Shape)
machine_shapes =
    (modes_name, by_names)
    ∷ (machine_section_name, by_entry machine)
    ∷ (game_name, by_entry game)
    ∷ (switches_name, by_entries [] switches)
    ∷ (coils_name, by_entries [] coils)
    ∷ device_shapes

-- those of the text of a mode
abbrev pub mode_shapes : List (List ℕ × Shape)
mode_shapes =
    (mode_name, by_entry mode)
    ∷ (timers_name, by_entries not_a_device timers)
    ∷ shared_shapes

abbrev pub shapes_in : TextKind → List (List ℕ × Shape)
shapes_in Machine = machine_shapes
shapes_in Mode = mode_shapes

-- what belongs to a name
abbrev pub named_in : {A : Type 0} → List ℕ → List (List ℕ × A) → Option A
named_in section [] = None
named_in section (t ∷ ts) = if bytes_eq section t.0 then Some t.1 else named_in section ts

-- how a section of a text of this kind is written
abbrev pub shape_of : TextKind → List ℕ → Option Shape
shape_of text section = named_in section (shapes_in text)
