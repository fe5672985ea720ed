-- The entries of sections, by the names of their settings.
use Rattle.std.specs.Prelude.{ℕ, zero, suc, ℤ, pos, negsuc, ◌^◌, nat_lt, nat_le, ◌==◌, ◌&&◌, not, Bool, false}
use Rattle.std.specs.Prelude.{if◌then◌else◌, List, [], ◌∷◌, length, map, Option, Some, None, slice_get, codes}
use Rattle.std.specs.{List.list_all, Str.bytes_eq}
use Rattle.machine_settings.specs.declared.words.Contact.{Contact, TheVariants.{NormallyOpen, NormallyClosed}}
use Rattle.mpf_sections.specs.declared.words.Debounce.{Debounce, TheVariants.{Auto, Quick, Normal}}
use Rattle.machine_settings.specs.declared.words.Direction.{Direction, TheVariants.{Up, Down}}
use Rattle.machine_settings.specs.declared.settings.BlockSettings.{BlockSettings}
use Rattle.mpf_sections.specs.declared.words.ControlAction.{ControlAction, TheVariants.{Subtract, Jump}}
use Rattle.mpf_sections.specs.declared.words.ControlAction.TheVariants.{Start, Stop, Pause, Reset, Restart, Add}
use Rattle.setting_values.specs.Values.{WrittenName, HandledEvent, Plain, flag, number, time, power, word, name, event}
use Rattle.setting_values.specs.Values.{Fields, KeyedValues, Value, one, names, posts, events, steps, maps, by_key}
use Rattle.section_tables.specs.{Rows.{Entry, PlayerEntry}, Shapes.Setting, Tables.{setting_key, setting_default}}
use Rattle.setting_values.specs.{Kinds.Field, Values.handled_at, ValueOf.within, KeyRules.{found_in, field_key}}
use Rattle.mpf_tables.specs.SectionTables as tables
pub use Rattle.mpf_tables.specs.SectionTables.{switches_name, event_player_name, counters_name, accruals_name}
pub use Rattle.mpf_tables.specs.SectionTables.{sequences_name, timers_name, modes_name, mode_name}
use Rattle.mpf_sections.specs.Rows.{Switch, EventPlayer, BlockEvents, CounterEntry, StepBlock, ControlEvent, TimerEntry}
use Rattle.mpf_sections.specs.Rows.{ModeSettings, Content, entries, players, entry, name_list, SectionRows}

-- ---- values

-- the value of a setting, by its key, in a row of this table
abbrev pub value_in : {T V : Type 0} → Option (ℕ × T) → List V → Option V
value_in None row = None
value_in (Some found) row = slice_get row found.0

abbrev pub setting_of : List Setting → List ℕ → List Value → Option Value
setting_of table key row = value_in (found_in setting_key key table) row

-- the value of a field, by its key, in a map of this table
abbrev pub field_of : List Field → List ℕ → List Plain → Option Plain
field_of table key values = value_in (found_in field_key key table) values

-- the place of a setting in a table, by its key; the one after the last if the table has no such setting
abbrev pub place_in : {T : Type 0} → Option (ℕ × T) → ℕ → ℕ
place_in None otherwise = otherwise
place_in (Some found) otherwise = found.0

abbrev pub place_of : List Setting → List ℕ → ℕ
place_of table key = place_in (found_in setting_key key table) (length table)

-- values of the kinds that their tables say; the last line of each is for rows that no table gives

abbrev pub listed_names : Option Value → List WrittenName
listed_names (Some (names xs)) = xs
listed_names _ = []

abbrev pub listed_posts : Option Value → List WrittenName
listed_posts (Some (posts xs)) = xs
listed_posts _ = []

abbrev pub listed_events : Option Value → List HandledEvent
listed_events (Some (events hs)) = hs
listed_events _ = []

abbrev pub word_of : Option Value → List ℕ
word_of (Some (one (word w))) = w
word_of _ = []

abbrev pub flag_of : Option Value → Bool
flag_of (Some (one (flag b))) = b
flag_of _ = false

-- a number from 0 to 2^32 - 1
abbrev pub natural_of : Option Value → ℕ
natural_of (Some (one (number (pos n)))) = if nat_lt n (2 ^ 32) then n else 0
natural_of _ = 0

-- a number
abbrev pub number_of : Option Value → ℤ
number_of (Some (one (number n))) = n
number_of _ = pos 0

-- a number that may be left out: from -1,000,000,000 to 1,000,000,000
abbrev pub limit_of : Option Value → Option ℤ
limit_of (Some (one (number n))) = if within (negsuc 999999999) (pos 1000000000) n then Some n else None
limit_of _ = None

-- a time in milliseconds
abbrev pub time_of : Option Value → ℕ
time_of (Some (one (time ms))) = ms
time_of _ = 0

-- steps, 16 at most
abbrev pub listed_steps : Option Value → List (List HandledEvent)
listed_steps (Some (steps ss)) = if nat_le (length ss) 16 then ss else []
listed_steps _ = []

abbrev pub listed_maps : Option Value → List Fields
listed_maps (Some (maps ms)) = ms
listed_maps _ = []

abbrev pub listed_keyed : Option Value → List KeyedValues
listed_keyed (Some (by_key ks)) = ks
listed_keyed _ = []

-- the one text that a value is
abbrev pub text_of : Option Value → Option Plain
text_of (Some (one x)) = Some x
text_of _ = None

-- ---- texts

-- the name, the word and the number that a text is
abbrev pub name_in : Option Plain → Option WrittenName
name_in (Some (name w)) = Some w
name_in _ = None

abbrev pub word_in : Option Plain → List ℕ
word_in (Some (word w)) = w
word_in _ = []

abbrev pub number_in : Option Plain → ℤ
number_in (Some (number n)) = n
number_in _ = pos 0

-- the milliseconds of a pulse, if they are written: from 1 to 5,000
abbrev pub pulse_in : Option Plain → Option ℕ
pulse_in (Some (time ms)) = if nat_le 1 ms && nat_le ms 5000 then Some ms else None
pulse_in _ = None

-- a power in thousandths, if it is written: up to 1,000
abbrev pub power_in : Option Plain → Option ℕ
power_in (Some (power n)) = if nat_le n 1000 then Some n else None
power_in _ = None

-- the handled event that a text is; a name is one that is handled always
abbrev pub handled_in : Plain → HandledEvent
handled_in (name w) = handled_at w.line (record { name = w.text; condition = None })
handled_in (event h) = h
handled_in _ = handled_at 0 (record { name = []; condition = None })

-- the same, if a text is written as one
abbrev pub event_in : Option Plain → Option HandledEvent
event_in (Some (event h)) = Some h
event_in _ = None

-- ---- `switches`

-- the contact of a word: NO or NC
abbrev pub contact_of : List ℕ → Contact
contact_of w = if bytes_eq w (codes "NC") then NormallyClosed else NormallyOpen

-- the debounce of a word: auto, quick or normal
abbrev pub debounce_of : List ℕ → Debounce
debounce_of w = if bytes_eq w (codes "quick") then Quick else (if bytes_eq w (codes "normal") then Normal else Auto)

unfoldable pub switch_of : Entry → Switch
switch_of e = record {
  name = e.name;
  contact = contact_of (word_of (setting_of tables.switches (codes "type") e.values));
  debounce = debounce_of (word_of (setting_of tables.switches (codes "debounce") e.values));
  tags = listed_names (setting_of tables.switches (codes "tags") e.values);
  activation_events = listed_posts (setting_of tables.switches (codes "events_when_activated") e.values);
  deactivation_events = listed_posts (setting_of tables.switches (codes "events_when_deactivated") e.values);
  order = e.order;
}

-- ---- `counters`, `accruals` and `sequences`

-- the settings that all of them have; a block is enabled at first if it has no `enable_events`
abbrev pub block_settings_of : List Setting → List Value → BlockSettings
block_settings_of table row = record {
  enabled = length (listed_events (setting_of table (codes "enable_events") row)) == 0;
  reset_on_complete = flag_of (setting_of table (codes "reset_on_complete") row);
  disable_on_complete = flag_of (setting_of table (codes "disable_on_complete") row);
  persist = flag_of (setting_of table (codes "persist_state") row);
}

-- the events that all of them have
abbrev pub block_of : List Setting → List Value → BlockEvents
block_of table row = record {
  enables = listed_events (setting_of table (codes "enable_events") row);
  disables = listed_events (setting_of table (codes "disable_events") row);
  resets = listed_events (setting_of table (codes "reset_events") row);
  restarts = listed_events (setting_of table (codes "restart_events") row);
  hit = listed_posts (setting_of table (codes "events_when_hit") row);
  complete = listed_posts (setting_of table (codes "events_when_complete") row);
}

-- the direction of a word: up or down
abbrev pub direction_of : List ℕ → Direction
direction_of w = if bytes_eq w (codes "down") then Down else Up

unfoldable pub counter_of : Entry → CounterEntry
counter_of e = record {
  name = e.name;
  counts = listed_events (setting_of tables.counters (codes "count_events") e.values);
  settings = record {
    block = block_settings_of tables.counters e.values;
    start = number_of (setting_of tables.counters (codes "starting_count") e.values);
    interval = number_of (setting_of tables.counters (codes "count_interval") e.values);
    direction = direction_of (word_of (setting_of tables.counters (codes "direction") e.values));
    complete = limit_of (setting_of tables.counters (codes "count_complete_value") e.values);
    window = time_of (setting_of tables.counters (codes "multiple_hit_window") e.values);
  };
  block = block_of tables.counters e.values;
  order = e.order;
}

-- `accruals` and `sequences` have the same settings
unfoldable pub step_block_of : Entry → StepBlock
step_block_of e = record {
  name = e.name;
  steps = listed_steps (setting_of tables.step_blocks (codes "events") e.values);
  settings = block_settings_of tables.step_blocks e.values;
  block = block_of tables.step_blocks e.values;
  order = e.order;
}

-- ---- `timers`

-- what a word does with a timer
abbrev pub action_of : List ℕ → ControlAction
action_of w =
    if bytes_eq w (codes "stop") then Stop
    else (if bytes_eq w (codes "pause") then Pause
    else (if bytes_eq w (codes "reset") then Reset
    else (if bytes_eq w (codes "restart") then Restart
    else (if bytes_eq w (codes "add") then Add
    else (if bytes_eq w (codes "subtract") then Subtract
    else (if bytes_eq w (codes "jump") then Jump else Start))))))

abbrev pub control_from : Fields → Option HandledEvent → Option ControlEvent
control_from m None = None
control_from m (Some h) = Some (record {
  event = h;
  action = action_of (word_in (field_of tables.control_events (codes "action") m.values));
  value = number_in (field_of tables.control_events (codes "value") m.values);
})

-- a control, or none if the map has no event
unfoldable pub control_of : Fields → Option ControlEvent
control_of m = control_from m (event_in (field_of tables.control_events (codes "event") m.values))

abbrev pub with_control : Option ControlEvent → List ControlEvent → List ControlEvent
with_control None cs = cs
with_control (Some c) cs = c ∷ cs

abbrev pub controls_of : List Fields → List ControlEvent
controls_of [] = []
controls_of (m ∷ ms) = with_control (control_of m) (controls_of ms)

-- if no end is written, a timer that goes down ends at 0, and one that goes up nowhere
abbrev pub end_from : Direction → Option ℤ → Option ℤ
end_from direction (Some n) = Some n
end_from Up None = None
end_from Down None = Some (pos 0)

-- at least a millisecond
abbrev pub interval_from : ℕ → ℕ
interval_from zero = 1
interval_from (suc ms) = suc ms

unfoldable pub timer_of : Entry → TimerEntry
timer_of e =
    let direction = direction_of (word_of (setting_of tables.timers (codes "direction") e.values)) in
    record {
      name = e.name;
      settings = record {
        start = number_of (setting_of tables.timers (codes "start_value") e.values);
        end = end_from direction (limit_of (setting_of tables.timers (codes "end_value") e.values));
        direction = direction;
        interval = interval_from (time_of (setting_of tables.timers (codes "tick_interval") e.values));
        start_running = flag_of (setting_of tables.timers (codes "start_running") e.values);
        restart = flag_of (setting_of tables.timers (codes "restart_on_complete") e.values);
      };
      controls = controls_of (listed_maps (setting_of tables.timers (codes "control_events") e.values));
    }

-- ---- `event_player`

unfoldable pub event_player_of : PlayerEntry → EventPlayer
event_player_of p = record { event = handled_in p.event; posts = listed_posts (Some p.value) }

-- ---- `mode`

unfoldable pub mode_settings_of : List Value → ModeSettings
mode_settings_of row = record {
  starts = listed_events (setting_of tables.mode (codes "start_events") row);
  stops = listed_events (setting_of tables.mode (codes "stop_events") row);
  priority = natural_of (setting_of tables.mode (codes "priority") row);
  game = flag_of (setting_of tables.mode (codes "game_mode") row);
  stops_with_ball = flag_of (setting_of tables.mode (codes "stop_on_ball_end") row);
  holds_ball_end = flag_of (setting_of tables.mode (codes "use_wait_queue") row);
}

-- the event of the end of the ball
abbrev pub ball_ending : List ℕ
ball_ending = codes "ball_ending"

-- whether a mode has start events, all of which are `ball_ending`, with or without a condition
unfoldable pub starts_at_ball_end : ModeSettings → Bool
starts_at_ball_end s = not (length s.starts == 0) && list_all (λ h. bytes_eq h.event.name ball_ending) s.starts

-- ---- sections

abbrev pub entries_in : Content → List Entry
entries_in (entries es) = es
entries_in _ = []

abbrev pub players_in : Content → List PlayerEntry
players_in (players ps) = ps
players_in _ = []

-- the entry that a section is, if it is one
abbrev pub entry_in : Content → List Entry
entry_in (entry e) = e ∷ []
entry_in _ = []

-- the names of a list of names
abbrev pub names_in : Content → List WrittenName
names_in (name_list ws) = ws
names_in _ = []

-- the entries of the section, if it has this name
abbrev pub entries_of : List ℕ → SectionRows → List Entry
entries_of section s = if bytes_eq s.name section then entries_in s.content else []

abbrev pub players_of : List ℕ → SectionRows → List PlayerEntry
players_of section s = if bytes_eq s.name section then players_in s.content else []

-- the switches of a section: of `switches` its entries, of any other none
unfoldable pub switches_in : SectionRows → List Switch
switches_in s = map switch_of (entries_of switches_name s)

-- the same for `event_player`
unfoldable pub event_players_in : SectionRows → List EventPlayer
event_players_in s = map event_player_of (players_of event_player_name s)

-- the same for `counters`, `accruals`, `sequences` and `timers`
unfoldable pub counters_in : SectionRows → List CounterEntry
counters_in s = map counter_of (entries_of counters_name s)

unfoldable pub accruals_in : SectionRows → List StepBlock
accruals_in s = map step_block_of (entries_of accruals_name s)

unfoldable pub sequences_in : SectionRows → List StepBlock
sequences_in s = map step_block_of (entries_of sequences_name s)

unfoldable pub timers_in : SectionRows → List TimerEntry
timers_in s = map timer_of (entries_of timers_name s)

-- the content of the section of this name, if there is one
abbrev pub content_named : List ℕ → List SectionRows → Option Content
content_named section [] = None
content_named section (s ∷ ss) = if bytes_eq s.name section then Some s.content else content_named section ss

-- the row of a section that is one entry with this table, or the defaults if there is no such section
abbrev pub row_or : List Setting → Option Content → List Value
row_or table (Some (entry e)) = e.values
row_or table _ = map setting_default table

-- the row of `mode`
abbrev pub mode_row : Option Content → List Value
mode_row = row_or tables.mode

-- what the sections of a mode say of it
abbrev pub mode_settings : List SectionRows → ModeSettings
mode_settings sections = mode_settings_of (mode_row (content_named mode_name sections))

abbrev pub names_of_content : Option Content → List WrittenName
names_of_content None = []
names_of_content (Some content) = names_in content

-- the names that the section `modes` lists, if there is one
abbrev pub listed_modes : List SectionRows → List WrittenName
listed_modes sections = names_of_content (content_named modes_name sections)
