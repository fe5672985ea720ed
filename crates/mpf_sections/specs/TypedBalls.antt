-- The entries of `ball_devices`, by the names of their settings.
use Rattle.std.specs.Prelude.{ℕ, zero, suc, Bool, ◌||◌, List, map, Option, Some, None, unwrap_or, codes}
use Rattle.std.specs.{List.list_any, Str.bytes_eq}
use Rattle.section_tables.specs.Rows.{Entry}
use Rattle.setting_values.specs.Values.{written_at}
use Rattle.mpf_tables.specs.SectionTables as tables
pub use Rattle.mpf_tables.specs.SectionTables.{ball_devices_name, playfield}
use Rattle.mpf_sections.specs.Typed.{setting_of, text_of, flag_of, listed_names, name_in, entries_of}
use Rattle.mpf_sections.specs.TypedNumbers.{natural_setting, time_setting}
use Rattle.mpf_sections.specs.{TypedShots.few, Rows.{BallDeviceEntry, SectionRows}}

-- how many attempts there may be, by a number in which 0 stands for no limit
abbrev pub attempts_of : ℕ → Option ℕ
attempts_of zero = None
attempts_of (suc n) = Some (suc n)

unfoldable pub ball_device_of : Entry → BallDeviceEntry
ball_device_of e = record {
  name = e.name;
  switches = few (listed_names (setting_of tables.ball_devices (codes "ball_switches") e.values));
  eject_coil = name_in (text_of (setting_of tables.ball_devices (codes "eject_coil") e.values));
  target = unwrap_or (name_in (text_of (setting_of tables.ball_devices (codes "eject_targets") e.values)))
      (written_at 0 playfield);
  ejects = record {
    entrance_delay = time_setting tables.ball_devices (codes "entrance_count_delay") e.values;
    exit_delay = time_setting tables.ball_devices (codes "exit_count_delay") e.values;
    timeout = time_setting tables.ball_devices (codes "eject_timeouts") e.values;
    max_attempts = attempts_of (natural_setting tables.ball_devices (codes "max_eject_attempts") e.values);
    mechanical = flag_of (setting_of tables.ball_devices (codes "mechanical_eject") e.values);
  };
  tags = listed_names (setting_of tables.ball_devices (codes "tags") e.values);
  order = e.order;
}

-- ---- tags

abbrev pub is_tagged : List ℕ → BallDeviceEntry → Bool
is_tagged tag d = list_any (λ w. bytes_eq w.text tag) d.tags

-- whether it ejects balls only on request
abbrev pub is_trough : BallDeviceEntry → Bool
is_trough = is_tagged (codes "trough")

-- whether the balls in it are at home
abbrev pub is_home : BallDeviceEntry → Bool
is_home d = is_trough d || is_tagged (codes "home") d

-- whether a ball that enters it, and was not on its way there, has drained
abbrev pub is_drain : BallDeviceEntry → Bool
is_drain = is_tagged (codes "drain")

-- ---- sections

-- the ball devices of a section: of `ball_devices` its entries, of any other none
unfoldable pub ball_devices_in : SectionRows → List BallDeviceEntry
ball_devices_in s = map ball_device_of (entries_of ball_devices_name s)
