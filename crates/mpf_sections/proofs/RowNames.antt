-- Every name in the rows of a section is one, by the names of settings too.
use Rattle.std.proofs.Common.{rules, ◌≢◌, ℕ, zero, suc, Bool, if◌then◌else◌, map, List, [], ◌∷◌, Option, Some, None}
use Rattle.std.{proofs.Common.slice_get, specs.{List.{All, AllByRecursion}, Str.bytes_eq}}
use Rattle.std.proofs.lemmas.List.Elements.{All-nil, All-map, All-tail, All-weaker, All-from_recursion}
use Rattle.mpf_values.specs.Names.{IsName}
use Rattle.setting_values.specs.Values.{Plain, KeyedValues, Value, by_key}
use Rattle.section_tables.specs.{Rows.{Entry, PlayerEntry}, Named.{IsNamedEvent, IsNamedEntry, IsNamedPlayer}}
use Rattle.setting_values.specs.NamedValues.{IsNamedHandled, IsNamedKeyed, IsNamedValue}
use Rattle.mpf_sections.specs.{Rows.{WrittenName, Content, SectionRows}, Named.{IsNamedContent, IsNamed}}
use Rattle.mpf_tables.specs.SectionTables.{switches_name}
use Rattle.mpf_sections.specs.Typed.{content_named, mode_row, mode_name, mode_settings_of, mode_settings, listed_names}
use Rattle.mpf_sections.specs.Typed.{listed_keyed, listed_events, listed_posts, handled_in, switch_of, event_player_of}
use Rattle.mpf_sections.specs.Typed.{entries_in, entries_of, switches_in}
use Rattle.mpf_sections.specs.Named.{AllNames, AllNamedEvents, IsNamedSwitch, IsNamedEventPlayer, AreNamedSettings}
use Rattle.yaml_bytes.proofs.Each.{all_where, made_each}

abbrev pub IsNamedOption : Option Value → Type 0
IsNamedOption None = Unit {0}
IsNamedOption (Some v) = IsNamedValue v

pub value_at_named : (row : List Value) (i : ℕ) → AllByRecursion IsNamedValue row → IsNamedOption (slice_get row i)
value_at_named [] i h = tt
value_at_named (v ∷ vs) zero h = h.0
value_at_named (v ∷ vs) (suc i) h = value_at_named vs i h.1

abbrev pub is_name : WrittenName → Type 0
is_name w = IsName w.text

pub names_named : (o : Option Value) → IsNamedOption o → AllNames (listed_names o)
names_named x1 h = search (rules, All-from_recursion, All-nil)

pub posts_named : (o : Option Value) → IsNamedOption o → AllNames (listed_posts o)
posts_named x1 h = search (rules, All-from_recursion, All-nil)

pub events_named : (o : Option Value) → IsNamedOption o → AllNamedEvents (listed_events o)
events_named x1 h = search (rules, All-from_recursion, All-nil)

pub event_named : (x : Plain) → IsNamedEvent x → IsNamedHandled (handled_in x)
event_named x1 h = search rules

-- What is made of each pair under an event has what its name gives it.
pub keyed_named : {X : Type 0} (P : X → Type 0) (of : KeyedValues → X) → ((k : KeyedValues) → IsNamedKeyed k → P (of k))
    → (v : Value) → IsNamedValue v → All P (map of (listed_keyed (Some v)))
keyed_named P of each (by_key ks) h = All-map P of ks
    (All-weaker IsNamedKeyed (λ k. P (of k)) each ks (All-from_recursion IsNamedKeyed ks h))
keyed_named P of each _ h = All-nil P

-- The names in an entry of `switches` are names.
pub switch_named : (e : Entry) → IsNamedEntry e → IsNamedSwitch (switch_of e)
unfolding switch_of
switch_named e h = search (rules, names_named, slice_get, value_at_named, posts_named)

-- Those in an entry of `event_player` are, too.
pub event_player_named : (p : PlayerEntry) → IsNamedPlayer p → IsNamedEventPlayer (event_player_of p)
unfolding event_player_of
event_player_named p h = record { event = event_named p.event h.event; posts = posts_named (Some p.value) h.value }

-- And those in what `mode` says.
pub settings_named : (row : List Value) → AllByRecursion IsNamedValue row → AreNamedSettings (mode_settings_of row)
unfolding mode_settings_of
settings_named row h =
    record {
      starts = events_named (slice_get row 0) (value_at_named row 0 h);
      stops = events_named (slice_get row 1) (value_at_named row 1 h);
    }

abbrev IsNamedFound : Option Content → Type 0
IsNamedFound None = Unit {0}
IsNamedFound (Some content) = IsNamedContent content

found_named : (section : List ℕ) (sections : List SectionRows) → All IsNamed sections
    → IsNamedFound (content_named section sections)
found_named section [] h = tt
found_named section (s ∷ ss) h = by (bytes_eq s.name section) (found_named section ss (All-tail IsNamed s ss h))
  where
    by : (b : Bool) → IsNamedFound (content_named section ss)
        → IsNamedFound (if b then Some s.content else content_named section ss)
    by x1 rest = search rules

row_named : (o : Option Content) → IsNamedFound o → AllByRecursion IsNamedValue (mode_row o)
row_named x1 h = search rules

-- so it is in what the sections of a mode say of it
pub mode_settings_named : (sections : List SectionRows) → All IsNamed sections
    → AreNamedSettings (mode_settings sections)
mode_settings_named sections h = settings_named (mode_row (content_named mode_name sections))
    (row_named (content_named mode_name sections) (found_named mode_name sections h))

entries_in_named : (content : Content) → IsNamedContent content → All IsNamedEntry (entries_in content)
entries_in_named x1 h = search rules

pub entries_of_named : (section : List ℕ) (s : SectionRows) → IsNamed s → All IsNamedEntry (entries_of section s)
entries_of_named section s h = all_where IsNamedEntry (bytes_eq s.name section) (entries_in s.content)
    (entries_in_named s.content h)

-- The names in the switches of a section are names.
pub switches_named : (s : SectionRows) → IsNamed s → All IsNamedSwitch (switches_in s)
unfolding switches_in
switches_named s h = made_each IsNamedSwitch switch_of switch_named (entries_of switches_name s)
    (entries_of_named switches_name s h)

-- ---- what a name is not

-- No byte of a name is a blank or ends a line.
pub name_bytes : (text : List ℕ) → IsName text → All (λ b. (b ≢ 32) × (b ≢ 9) × (b ≢ 10)) text
name_bytes text h = search (rules, All-weaker, All-from_recursion)
