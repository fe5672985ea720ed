-- The entries of `ball_saves` and `multiballs`, by the names of their settings.
use Rattle.std.specs.Prelude.{List, map, codes}
use Rattle.section_tables.specs.Rows.{Entry}
use Rattle.mpf_tables.specs.SectionTables as tables
pub use Rattle.mpf_tables.specs.SectionTables.{ball_saves_name, multiballs_name}
use Rattle.mpf_sections.specs.Typed.{setting_of, time_of, listed_events, entries_of}
use Rattle.mpf_sections.specs.{TypedNumbers.natural_setting, Rows.{BallSaveEntry, MultiballEntry, SectionRows}}

unfoldable pub ball_save_of : Entry → BallSaveEntry
ball_save_of e = record {
  name = e.name;
  settings = record {
    active_time = time_of (setting_of tables.ball_saves (codes "active_time") e.values);
    balls = natural_setting tables.ball_saves (codes "balls_to_save") e.values;
  };
  enable_events = listed_events (setting_of tables.ball_saves (codes "enable_events") e.values);
  disable_events = listed_events (setting_of tables.ball_saves (codes "disable_events") e.values);
}

unfoldable pub multiball_of : Entry → MultiballEntry
multiball_of e = record {
  name = e.name;
  settings = record { balls = natural_setting tables.multiballs (codes "ball_count") e.values };
  start_events = listed_events (setting_of tables.multiballs (codes "start_events") e.values);
}

-- ---- sections

-- the ball saves of a section: of `ball_saves` its entries, of any other none
unfoldable pub ball_saves_in : SectionRows → List BallSaveEntry
ball_saves_in s = map ball_save_of (entries_of ball_saves_name s)

-- the same for `multiballs`
unfoldable pub multiballs_in : SectionRows → List MultiballEntry
multiballs_in s = map multiball_of (entries_of multiballs_name s)
