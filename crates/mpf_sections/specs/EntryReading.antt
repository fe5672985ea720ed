-- What contracts of the functions inside this crate see.
use Rattle.std.specs.Prelude.{◌≡◌, ℕ, ◌+◌, ◌==◌, Bool, List, length, map, Option, Some, option_map, slice_get}
use Rattle.std.specs.{Prelude.unwrap_or, List.list_all, Str.bytes_eq, Borrow.Bor}
use Rattle.setting_values.specs.declared.values.{Name.Name, Handler.Handler, Step.Step}
use Rattle.setting_values.specs.{View.{value_view, plains_view}, Values.{Plain, Value, name as named, written_at}}
use Rattle.setting_values.specs.declared.values.Plain as plain_rows
use Rattle.setting_values.specs.declared.values.Value as value_rows
use Rattle.setting_values.specs.declared.values.Fields as field_rows
use Rattle.setting_values.specs.declared.values.KeyedValues as keyed_rows
use Rattle.section_tables.specs.declared.rows.Entry as entry_rows
use Rattle.mpf_sections.specs.declared.section.Content as contents
use Rattle.mpf_sections.specs.declared.{section.Section.Section, typed.{NameAt.NameAt, HandledAt.HandledAt}}
use Rattle.mpf_sections.specs.declared.blocks.BlockEvents as typed_blocks
use Rattle.machine_settings.specs.declared.settings.BlockSettings.{BlockSettings}
use Rattle.mpf_sections.specs.{Rows.BlockEvents, Typed.{ball_ending, content_named}, TypedShots.few}
use Rattle.mpf_sections.specs.View.{plain_option_view, block_view}
use Rattle.mpf_sections.specs.Typed.{text_of, flag_of, listed_names, listed_events, listed_posts, listed_steps}
use Rattle.mpf_sections.specs.Typed.{listed_maps, listed_keyed, name_in, handled_in, event_in, pulse_in, power_in}
use Rattle.mpf_sections.specs.View.{name_view, handler_view, step_view, plain_view, fields_view, keyed_view}
use Rattle.mpf_sections.specs.View.{entry_view, content_view, section_view, name_at_view, handled_at_view}

-- the settings that all logic blocks have, from this place on in a row
abbrev pub block_settings_at : ℕ → List Value → BlockSettings
block_settings_at first row = record {
  enabled = length (listed_events (slice_get row (first + 3))) == 0;
  reset_on_complete = flag_of (slice_get row first);
  disable_on_complete = flag_of (slice_get row (first + 1));
  persist = flag_of (slice_get row (first + 2));
}

-- the events that all logic blocks have, after these settings
abbrev pub block_at : ℕ → List Value → BlockEvents
block_at first row = record {
  enables = listed_events (slice_get row (first + 3));
  disables = listed_events (slice_get row (first + 4));
  resets = listed_events (slice_get row (first + 5));
  restarts = listed_events (slice_get row (first + 6));
  hit = listed_posts (slice_get row (first + 7));
  complete = listed_posts (slice_get row (first + 8));
}

-- the events of a logic block, whose settings are from this place on in a row of the program
abbrev pub IsBlockAt : ℕ → entry_rows.Entry → typed_blocks.BlockEvents → Type 0
IsBlockAt first entry block = block_view block ≡ block_at first (entry_view entry).values

-- ---- rows

-- the value at a place of an entry
abbrev pub value_at : entry_rows.Entry → ℕ → Option Value
value_at entry place = slice_get (entry_view entry).values place

-- the text at a place of an entry, if there is one
abbrev pub IsTextAt : entry_rows.Entry → ℕ → Option (Bor plain_rows.Plain) → Type 0
IsTextAt entry place text = plain_option_view text ≡ text_of (value_at entry place)

-- the names that are listed at a place of an entry
abbrev pub AreNamesAt : entry_rows.Entry → ℕ → List Name → Type 0
AreNamesAt entry place names = map name_view names ≡ listed_names (value_at entry place)

-- the names that are listed at a place of an entry, if they are 16 at most
abbrev pub AreFewNamesAt : entry_rows.Entry → ℕ → List Name → Type 0
AreFewNamesAt entry place names = map name_view names ≡ few (listed_names (value_at entry place))

-- the handled events that are listed at a place of an entry
abbrev pub AreEventsAt : entry_rows.Entry → ℕ → List Handler → Type 0
AreEventsAt entry place events = map handler_view events ≡ listed_events (value_at entry place)

-- the posted events that a value lists
abbrev pub ArePostsOf : value_rows.Value → List Name → Type 0
ArePostsOf value posts = map name_view posts ≡ listed_posts (Some (value_view value))

-- the posted events that are listed at a place of an entry
abbrev pub ArePostsAt : entry_rows.Entry → ℕ → List Name → Type 0
ArePostsAt entry place posts = map name_view posts ≡ listed_posts (value_at entry place)

-- the steps at a place of an entry
abbrev pub AreStepsAt : entry_rows.Entry → ℕ → List Step → Type 0
AreStepsAt entry place steps = map step_view steps ≡ listed_steps (value_at entry place)

-- the maps that are listed at a place of an entry
abbrev pub AreMapsAt : entry_rows.Entry → ℕ → List field_rows.Fields → Type 0
AreMapsAt entry place maps = map fields_view maps ≡ listed_maps (value_at entry place)

-- the maps that are listed at a place of an entry, if they are 16 at most
abbrev pub AreFewMapsAt : entry_rows.Entry → ℕ → List field_rows.Fields → Type 0
AreFewMapsAt entry place maps = map fields_view maps ≡ few (listed_maps (value_at entry place))

-- the names of a value, with what belongs to each
abbrev pub AreKeyedOf : value_rows.Value → List keyed_rows.KeyedValues → Type 0
AreKeyedOf value items = map keyed_view items ≡ listed_keyed (Some (value_view value))

-- ---- maps and texts

-- the text at a place of a map, if there is one
abbrev pub field_at : List plain_rows.Plain → ℕ → Option Plain
field_at values place = slice_get (plains_view values) place

-- the same, as the program has it
abbrev pub IsFieldAt : List plain_rows.Plain → ℕ → Option (Bor plain_rows.Plain) → Type 0
IsFieldAt values place text = plain_option_view text ≡ field_at values place

-- the event of this name, handled always
abbrev pub IsAlways : NameAt → HandledAt → Type 0
IsAlways name event = handled_at_view event ≡ handled_in (named (name_at_view name))

-- the handled event that a text is
abbrev pub IsHandledIn : plain_rows.Plain → HandledAt → Type 0
IsHandledIn text event = handled_at_view event ≡ handled_in (plain_view text)

-- the handled event that a text is, if it is written as one
abbrev pub IsEventIn : Option (Bor plain_rows.Plain) → Option HandledAt → Type 0
IsEventIn text event = option_map handled_at_view event ≡ event_in (plain_option_view text)

-- the name that a text is, if it is one
abbrev pub IsNameIn : Option (Bor plain_rows.Plain) → Option NameAt → Type 0
IsNameIn text name = option_map name_at_view name ≡ name_in (plain_option_view text)

-- the name that a text is, or this other one at line 0
abbrev pub IsNameOr : List ℕ → Option (Bor plain_rows.Plain) → NameAt → Type 0
IsNameOr otherwise text name = name_at_view name ≡ unwrap_or (name_in (plain_option_view text)) (written_at 0 otherwise)

-- the milliseconds of a pulse that a text is
abbrev pub pulse_of_text : Option (Bor plain_rows.Plain) → Option ℕ
pulse_of_text text = pulse_in (plain_option_view text)

-- the power that a text is
abbrev pub power_of_text : Option (Bor plain_rows.Plain) → Option ℕ
power_of_text text = power_in (plain_option_view text)

-- ---- modes and sections

-- whether each of these events is `ball_ending`
abbrev pub are_ball_ending : List Handler → Bool
are_ball_ending starts = list_all (λ h. bytes_eq h.event.name ball_ending) (map handler_view starts)

-- what stands in the section of this name, if there is one
abbrev pub IsContentNamed : List ℕ → List Section → Option (Bor contents.Content) → Type 0
IsContentNamed name sections answer = option_map (λ content. content_view content.now) answer
    ≡ content_named name (map section_view sections)
