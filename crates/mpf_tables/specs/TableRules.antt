-- What has to hold of every table: no key comes twice, each default is of the kind of its line, the place of a short
-- form is within its table, and the name of a map comes first in its table.
use Rattle.std.specs.Prelude.{◌≡◌, nat_le, nat_lt, Bool, true, false, ◌&&◌, List, [], ◌∷◌, length, map, Option, Some}
use Rattle.std.specs.{Prelude.None, List.{list_any, list_all}, Str.bytes_eq}
use Rattle.mpf_values.specs.{Reading.is_name, Events.EventCondition}
use Rattle.setting_values.specs.Values.{HandledEvent, Plain, nothing, flag, number, time, power, word, name, event}
use Rattle.setting_values.specs.Values.{Value, one, names, posts, events, maps}
use Rattle.setting_values.specs.Kinds.{Scalar, a_flag, number_within, time_within, a_power, one_of, a_name, an_event}
use Rattle.setting_values.specs.Kinds.{Absent, mandatory, default, fits, Field, Kind, single, name_list, post_list}
use Rattle.setting_values.specs.Kinds.{event_list, map_list, named_maps, keyed_maps}
use Rattle.section_tables.specs.Shapes.{Setting, PlayerKinds, Shape, by_entries, by_players, by_entry, by_names}
use Rattle.setting_values.specs.{KeyRules.field_key, ValueOf.within, Reading.are_apart}
use Rattle.section_tables.specs.Tables.{setting_key}

-- ---- defaults

-- whether a handled event, and the variable of its condition, have a name
abbrev pub is_named_condition : Option EventCondition → Bool
is_named_condition None = true
is_named_condition (Some c) = is_name c.variable

abbrev pub is_named_handled : HandledEvent → Bool
is_named_handled h = is_name h.event.name && is_named_condition h.event.condition

-- a text, or nothing
abbrev pub is_plain_of : Scalar → Plain → Bool
is_plain_of kind nothing = true
is_plain_of a_flag (flag b) = true
is_plain_of (number_within least greatest) (number n) = within least greatest n
is_plain_of (time_within least greatest) (time ms) = nat_le least ms && nat_le ms greatest
is_plain_of a_power (power n) = nat_le n 1000
is_plain_of (one_of words) (word w) = list_any (λ x. bytes_eq x w) words
is_plain_of a_name (name w) = is_name w.text
is_plain_of an_event (event h) = is_named_handled h
is_plain_of _ _ = false

-- a text, no items, one name, or one event
abbrev pub is_value_of : Kind → Value → Bool
is_value_of (single kind) (one x) = is_plain_of kind x
is_value_of (name_list bounds) (names []) = fits bounds 0
is_value_of (name_list bounds) (names (w ∷ [])) = fits bounds 1 && is_name w.text
is_value_of (post_list bounds) (posts []) = fits bounds 0
is_value_of (event_list bounds) (events []) = fits bounds 0
is_value_of (event_list bounds) (events (h ∷ [])) = fits bounds 1 && is_named_handled h
is_value_of (map_list table others bounds) (maps []) = fits bounds 0
is_value_of (named_maps table others bounds) (maps []) = fits bounds 0
is_value_of _ _ = false

abbrev pub is_plain_default : Scalar → Absent Plain → Bool
is_plain_default kind mandatory = true
is_plain_default kind (default x) = is_plain_of kind x

abbrev pub is_value_default : Kind → Absent Value → Bool
is_value_default kind mandatory = true
is_value_default kind (default v) = is_value_of kind v

-- ---- tables

abbrev pub are_fields : List Field → Bool
are_fields table = are_apart (map field_key table) && list_all (λ f. is_plain_default f.kind f.absent) table

-- a name that has to be written
abbrev pub is_needed_name : Scalar → Absent Plain → Bool
is_needed_name a_name mandatory = true
is_needed_name kind absent = false

abbrev pub begins_with_name : List Field → Bool
begins_with_name [] = false
begins_with_name (f ∷ fs) = is_needed_name f.kind f.absent

-- the table of a kind's maps
abbrev pub has_fields : Kind → Bool
has_fields (map_list table others bounds) = are_fields table
has_fields (named_maps table others bounds) = are_fields table && begins_with_name table
has_fields (keyed_maps table place short) = are_fields table && nat_lt place (length table)
has_fields _ = true

abbrev pub IsTable : List Setting → Type 0
IsTable table = (are_apart (map setting_key table)
    && list_all (λ s. is_value_default s.kind s.absent && has_fields s.kind) table) ≡ true

-- the keys of a player are events
abbrev pub is_event_kind : Scalar → Bool
is_event_kind a_name = true
is_event_kind an_event = true
is_event_kind _ = false

abbrev pub ArePlayerKinds : PlayerKinds → Type 0
ArePlayerKinds kinds = (is_event_kind kinds.key && has_fields kinds.value) ≡ true

-- what the shape of a section says is right
abbrev pub IsRight : Shape → Type 0
IsRight (by_entries barred_names table) = IsTable table
IsRight (by_players kinds) = ArePlayerKinds kinds
IsRight (by_entry table) = IsTable table
IsRight by_names = Unit {0}
