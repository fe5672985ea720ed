-- What holds of logic blocks and timers, by the names of their settings: their names are names, and their settings are
-- in their ranges.
use Rattle.std.proofs.Common.{rules, ℕ, zero, suc, ◌≤◌, nat_le, List, [], ◌∷◌, length, Option, Some, None, slice_get}
use Rattle.std.{specs.List.{All, AllByRecursion}, proofs.lemmas.List.Elements.{All-nil, All-weaker, All-from_recursion}}
use Rattle.mpf_values.specs.Names.{IsName}
use Rattle.setting_values.specs.{Values.{Plain, Fields, Value, steps, maps}, NamedValues.IsShortValue}
use Rattle.section_tables.specs.{Rows.Entry, Named.{IsNamedEntry, IsShortEntry}}
use Rattle.setting_values.specs.NamedValues.{IsNamedHandled, IsNamedPlain, AreNamedEvents, AreNamedPlains, IsNamedValue}
use Rattle.mpf_sections.specs.Rows.{WrittenName, HandledEvent, ControlEvent, SectionRows}
use Rattle.mpf_sections.{specs.{EntryReading.block_at, Named.IsNamed}, proofs.ShortRows.{value_at_short, posts_short}}
use Rattle.mpf_sections.specs.Typed.{counters_name, timers_name, limit_of, listed_steps, listed_maps, name_in, event_in}
use Rattle.mpf_sections.specs.Typed.{control_from, control_of, with_control, controls_of, counter_of, step_block_of}
use Rattle.mpf_sections.specs.Typed.{timer_of, counters_in, timers_in, entries_of}
use Rattle.machine_settings.specs.Limits.{IsEndWithin}
use Rattle.mpf_sections.specs.Named.{AllNamedEvents, IsNamedBlock, IsNamedCounter, IsNamedStepBlock, IsNamedTimer}
use Rattle.mpf_sections.specs.Short.{IsShortBlock, IsShortCounter, IsShortStepBlock, IsShortTimer, IsShortSection}
use Rattle.mpf_sections.proofs.RowNames.{IsNamedOption, value_at_named, events_named, posts_named, entries_of_named}
use Rattle.yaml_bytes.proofs.Each.{all_where, made_each}

-- ---- names

block_named : (first : ℕ) (row : List Value) → AllByRecursion IsNamedValue row → IsNamedBlock (block_at first row)
block_named first row h = search (rules, events_named, slice_get, value_at_named, posts_named)

-- The names in an entry of `counters` are names.
pub counter_named : (e : Entry) → IsNamedEntry e → IsNamedCounter (counter_of e)
unfolding counter_of
counter_named e h = record {
  name = h.name;
  counts = events_named (slice_get e.values 0) (value_at_named e.values 0 h.values);
  block = block_named 6 e.values h.values;
}

all_steps : (ss : List (List HandledEvent)) → AllByRecursion AreNamedEvents ss → All AllNamedEvents ss
all_steps ss h = All-weaker AreNamedEvents AllNamedEvents (λ hs k. All-from_recursion IsNamedHandled hs k) ss
    (All-from_recursion AreNamedEvents ss h)

steps_named : (o : Option Value) → IsNamedOption o → All AllNamedEvents (listed_steps o)
steps_named (Some (steps ss)) h = all_where AllNamedEvents (nat_le (length ss) 16) ss (all_steps ss h)
steps_named _ h = All-nil AllNamedEvents

-- Those in an entry of `accruals` or `sequences` are, too.
pub step_block_named : (e : Entry) → IsNamedEntry e → IsNamedStepBlock (step_block_of e)
unfolding step_block_of
step_block_named e h = record {
  name = h.name;
  steps = steps_named (slice_get e.values 0) (value_at_named e.values 0 h.values);
  block = block_named 1 e.values h.values;
}

abbrev HasNames : ControlEvent → Type 0
HasNames c = IsNamedHandled c.event

abbrev pub IsNamedText : Option Plain → Type 0
IsNamedText None = Unit {0}
IsNamedText (Some x) = IsNamedPlain x

pub text_at_named : (values : List Plain) (i : ℕ) → AreNamedPlains values → IsNamedText (slice_get values i)
text_at_named [] i h = tt
text_at_named (x ∷ xs) zero h = h.0
text_at_named (x ∷ xs) (suc i) h = text_at_named xs i h.1

abbrev IsNamedFound : Option HandledEvent → Type 0
IsNamedFound None = Unit {0}
IsNamedFound (Some h) = IsNamedHandled h

event_in_named : (o : Option Plain) → IsNamedText o → IsNamedFound (event_in o)
event_in_named x1 h = search rules

abbrev pub IsNamedWritten : Option WrittenName → Type 0
IsNamedWritten None = Unit {0}
IsNamedWritten (Some w) = IsName w.text

pub name_in_named : (o : Option Plain) → IsNamedText o → IsNamedWritten (name_in o)
name_in_named x1 h = search rules

one_control : (m : Fields) (o : Option HandledEvent) → IsNamedFound o → (cs : List ControlEvent) → All HasNames cs
    → All HasNames (with_control (control_from m o) cs)
one_control m x2 h cs rest = search rules

controls_named : (ms : List Fields) → AllByRecursion (λ m. AreNamedPlains m.values) ms → All HasNames (controls_of ms)
unfolding control_of
controls_named [] h = All-nil HasNames
controls_named (m ∷ ms) h = search (rules, one_control, slice_get, event_in_named, text_at_named, controls_named ms h.1)

maps_named : (o : Option Value) → IsNamedOption o → All HasNames (controls_of (listed_maps o))
maps_named (Some (maps ms)) h = controls_named ms h
maps_named _ h = All-nil HasNames

-- Those in an entry of `timers` are, too.
pub timer_named : (e : Entry) → IsNamedEntry e → IsNamedTimer (timer_of e)
unfolding timer_of
timer_named e h =
    record { name = h.name; controls = maps_named (slice_get e.values 6) (value_at_named e.values 6 h.values) }

-- ---- ranges

limit_in_range : (o : Option Value) → IsEndWithin (limit_of o)
limit_in_range x1 = search rules

steps_few : (o : Option Value) → length (listed_steps o) ≤ 16
steps_few x1 = search rules

block_short : (first : ℕ) (row : List Value) → All (IsShortValue 1024) row → IsShortBlock (block_at first row)
block_short first row h = search (rules, posts_short, slice_get, value_at_short)

-- What a counter has is in its range, and so it is with what an accrual, a sequence or a timer has.
pub counter_short : (e : Entry) → IsShortEntry 1024 e → IsShortCounter (counter_of e)
unfolding counter_of
counter_short e h = record { settings = limit_in_range (slice_get e.values 3); block = block_short 6 e.values h }

pub step_block_short : (e : Entry) → IsShortEntry 1024 e → IsShortStepBlock (step_block_of e)
unfolding step_block_of
step_block_short e h = record { steps = steps_few (slice_get e.values 0); block = block_short 1 e.values h }

pub timer_in_range : (e : Entry) → IsShortTimer (timer_of e)
unfolding timer_of
timer_in_range e = search rules
