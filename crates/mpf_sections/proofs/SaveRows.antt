-- What holds of ball saves and multiballs, by the names of their settings: their names are names, and their settings
-- are in their ranges.
use Rattle.std.{proofs.Common.{rules, slice_get, refl}, specs.List.All}
use Rattle.section_tables.specs.{Rows.Entry, Named.IsNamedEntry}
use Rattle.mpf_tables.specs.SectionTables as tables
use Rattle.mpf_sections.specs.{Rows.SectionRows, Typed.entries_of, TypedSaves.multiballs_in}
use Rattle.mpf_sections.specs.Short.{IsShortBallSave, IsShortMultiball}
use Rattle.mpf_sections.specs.TypedSaves.{ball_saves_name, multiballs_name, ball_save_of, multiball_of, ball_saves_in}
use Rattle.mpf_sections.specs.Named.{IsNamedBallSave, IsNamedMultiball, IsNamed}
use Rattle.mpf_sections.proofs.{NumberRows.natural_in_range, RowNames.{value_at_named, events_named, entries_of_named}}
use Rattle.yaml_bytes.proofs.Each.{all_mapped, made_each}

-- ---- names

-- The names in an entry of `ball_saves` are names.
pub ball_save_named : (e : Entry) → IsNamedEntry e → IsNamedBallSave (ball_save_of e)
unfolding ball_save_of
ball_save_named e h = search (rules, events_named, slice_get, value_at_named)

-- Those in an entry of `multiballs` are, too.
pub multiball_named : (e : Entry) → IsNamedEntry e → IsNamedMultiball (multiball_of e)
unfolding multiball_of
multiball_named e h =
    record { name = h.name; start_events = events_named (slice_get e.values 1) (value_at_named e.values 1 h.values) }

-- ---- ranges

-- A ball save saves 1 to 99 balls.
pub ball_save_short : (e : Entry) → IsShortBallSave (ball_save_of e)
unfolding ball_save_of
ball_save_short e = natural_in_range (slice_get tables.ball_saves 1) (slice_get e.values 1) refl

-- A multiball has 2 to 99 balls.
pub multiball_short : (e : Entry) → IsShortMultiball (multiball_of e)
unfolding multiball_of
multiball_short e = natural_in_range (slice_get tables.multiballs 0) (slice_get e.values 0) refl
