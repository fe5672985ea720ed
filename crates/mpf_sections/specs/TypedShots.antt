-- The entries of `shots`, `shot_groups` and `shot_profiles`, by the names of their settings.
use Rattle.std.specs.Prelude.{ℕ, nat_le, if◌then◌else◌, List, [], length, map, Option, unwrap_or, codes}
use Rattle.std.specs.List.{filter_map}
use Rattle.setting_values.specs.Values.{WrittenName, HandledEvent, Fields, written_at}
use Rattle.section_tables.specs.Rows.{Entry}
use Rattle.mpf_tables.specs.SectionTables as tables
pub use Rattle.mpf_tables.specs.SectionTables.{shots_name, shot_groups_name, shot_profiles_name, default_profile}
use Rattle.mpf_sections.specs.Typed.{setting_of, field_of, text_of, flag_of, listed_names, listed_events, listed_maps}
use Rattle.mpf_sections.specs.{Typed.{name_in, entries_of}, Rows.{Shot, ShotGroup, ShotProfile, SectionRows}}

-- a list of at most 16 items; a longer one, which no table gives, counts as none
abbrev pub few : {A : Type 0} → List A → List A
few xs = if nat_le (length xs) 16 then xs else []

-- ---- `shots`

abbrev shot_handlers : List ℕ → Entry → List HandledEvent
shot_handlers key e = listed_events (setting_of tables.shots key e.values)

unfoldable pub shot_of : Entry → Shot
shot_of e = record {
  name = e.name;
  switch = name_in (text_of (setting_of tables.shots (codes "switch") e.values));
  hits = shot_handlers (codes "hit_events") e;
  profile = unwrap_or (name_in (text_of (setting_of tables.shots (codes "profile") e.values)))
      (written_at 0 default_profile);
  advances = shot_handlers (codes "advance_events") e;
  resets = shot_handlers (codes "reset_events") e;
  enables = shot_handlers (codes "enable_events") e;
  disables = shot_handlers (codes "disable_events") e;
  order = e.order;
}

-- ---- `shot_groups`

abbrev group_handlers : List ℕ → Entry → List HandledEvent
group_handlers key e = listed_events (setting_of tables.shot_groups key e.values)

unfoldable pub shot_group_of : Entry → ShotGroup
shot_group_of e = record {
  name = e.name;
  shots = few (listed_names (setting_of tables.shot_groups (codes "shots") e.values));
  rotates = group_handlers (codes "rotate_events") e;
  rotates_right = group_handlers (codes "rotate_right_events") e;
  rotates_left = group_handlers (codes "rotate_left_events") e;
  resets = group_handlers (codes "reset_events") e;
}

-- ---- `shot_profiles`

-- the name of a state, or none if its map has no name
unfoldable pub state_of : Fields → Option WrittenName
state_of m = name_in (field_of tables.profile_state (codes "name") m.values)

unfoldable pub shot_profile_of : Entry → ShotProfile
shot_profile_of e = record {
  name = e.name;
  states = filter_map state_of (few (listed_maps (setting_of tables.shot_profiles (codes "states") e.values)));
  advance_on_hit = flag_of (setting_of tables.shot_profiles (codes "advance_on_hit") e.values);
  loops = flag_of (setting_of tables.shot_profiles (codes "loop") e.values);
}

-- ---- sections

-- the shots of a section: of `shots` its entries, of any other none
unfoldable pub shots_in : SectionRows → List Shot
shots_in s = map shot_of (entries_of shots_name s)

-- the same for `shot_groups` and `shot_profiles`
unfoldable pub shot_groups_in : SectionRows → List ShotGroup
shot_groups_in s = map shot_group_of (entries_of shot_groups_name s)

unfoldable pub shot_profiles_in : SectionRows → List ShotProfile
shot_profiles_in s = map shot_profile_of (entries_of shot_profiles_name s)
