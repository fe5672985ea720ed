-- What holds of ball devices, by the names of their settings: their names are names, and their settings are in their
-- ranges.
use Rattle.std.{proofs.Common.{rules, ◌≡◌, map, slice_get, refl}, specs.List.All}
use Rattle.section_tables.specs.{Rows.Entry, Named.{IsNamedEntry, IsShortEntry}}
use Rattle.mpf_sections.specs.{Rows.SectionRows, Typed.entries_of, Named.{IsNamedBallDevice, IsNamed}}
use Rattle.mpf_sections.specs.TypedBalls.{ball_devices_name, ball_device_of, ball_devices_in}
use Rattle.mpf_sections.specs.Short.{IsShortBallDevice, IsShortSection}
use Rattle.mpf_tables.proofs.TableNames.{playfield_named}
use Rattle.mpf_sections.proofs.{NumberRows.time_in_range, ShotRows.{few_all, few_short}}
use Rattle.mpf_sections.proofs.RowNames.{is_name, value_at_named, names_named, entries_of_named}
use Rattle.mpf_sections.proofs.ShortRows.{value_at_short, names_short}
use Rattle.mpf_sections.proofs.CoilRows.{written_named, some_named, either_named}
use Rattle.yaml_bytes.proofs.Each.{made_each}

-- ---- names

-- The names in an entry of `ball_devices` are names.
pub ball_device_named : (e : Entry) → IsNamedEntry e → IsNamedBallDevice (ball_device_of e)
unfolding ball_device_of
ball_device_named e h =
    search (
      rules,
      few_all,
      is_name,
      slice_get,
      names_named,
      value_at_named,
      some_named,
      written_named,
      either_named,
      playfield_named,
    )

-- ---- ranges

-- The settings of a ball device are in their ranges.
pub ball_device_short : (e : Entry) → IsShortEntry 1024 e → IsShortBallDevice (ball_device_of e)
unfolding ball_device_of
ball_device_short e h = search (rules, few_short, slice_get, time_in_range, names_short, value_at_short)

-- The ball devices of a section are its entries, if it is `ball_devices`.
pub ball_devices_are : (s : SectionRows) → map ball_device_of (entries_of ball_devices_name s) ≡ ball_devices_in s
unfolding ball_devices_in
ball_devices_are s = refl
