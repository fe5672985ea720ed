-- What the maps of `Definitions` hold and gain, and what entries are read as.
use Rattle.std.specs.Prelude.{◌≡◌, ◌||◌, ℕ, Bool, List, fold, map, Option, Some, option_map}
use Rattle.std.specs.{List.{filter_map, flat_map, list_any}, Str.bytes_eq, HashMap.HashMap}
use Rattle.std.specs.{Borrow.Bor, HashSet.HashSet, Map.lookup}
use Rattle.mpf_sections.specs.Rows.{Coil, SectionRows, Shot, BallDeviceEntry}
use Rattle.mpf_sections.specs.{declared.section.Section.Section, TypedBalls.ball_device_of}
use Rattle.mpf_sections.specs.{Typed.switch_of, TypedCoils.coil_of, CoilRules.{names_at, quick_switches}}
use Rattle.section_tables.specs.declared.rows.Entry as entry_rows
use Rattle.setting_values.specs.declared.values.Fields as field_rows
use Rattle.mpf_sections.specs.View.{entry_view, fields_view, section_view}
use Rattle.mpf_sections.specs.TypedShots.{shot_of, state_of, shot_profile_of, shots_in, shot_profiles_in}
use Rattle.mpf_config.specs.Rows.{Rows}
use Rattle.machine_definitions.specs.declared.profile.Profile as profiles
use Rattle.machine_definitions.specs.Definitions.{latest_coil, coil_called, has_switch, makes_quick, latest_ball_device}
use Rattle.machine_definitions.specs.{Definitions.ball_device_called, Shots.{latest_profile, profile_called}}
use Rattle.machine_definitions.specs.Shots.{latest_shot, shot_called, Profile, profile_of, standard_profile}

-- the names of states
abbrev pub names_view : List (Bor (List ℕ)) → List (List ℕ)
names_view names = map (λ n. n.now) names

abbrev pub profile_view : profiles.Profile → Profile
profile_view p =
    record { name = p.name.now; states = names_view p.states.items; advance_on_hit = p.advance_on_hit; loops = p.loops }

-- a key that has these bytes
abbrev pub has_bytes : List ℕ → Bor (List ℕ) → Bool
has_bytes name key = bytes_eq name key.now

-- entries, as what they are read
abbrev pub as_coil : Bor entry_rows.Entry → Coil
as_coil e = coil_of (entry_view e.now)

abbrev pub as_ball_device : Bor entry_rows.Entry → BallDeviceEntry
as_ball_device e = ball_device_of (entry_view e.now)

abbrev pub as_shot : Bor entry_rows.Entry → Shot
as_shot e = shot_of (entry_view e.now)

-- the coil that is found by a name, and whether a name is found
abbrev pub found_coil : {S : Type 0} → HashMap (Bor (List ℕ)) (Bor entry_rows.Entry) S → List ℕ → Option Coil
found_coil coils name = option_map as_coil (lookup (has_bytes name) coils.entries)

abbrev pub is_found : {S : Type 0} → HashSet (Bor (List ℕ)) S → List ℕ → Bool
is_found names name = list_any (has_bytes name) names.keys

abbrev pub found_ball_device : {S : Type 0} → HashMap (Bor (List ℕ)) (Bor entry_rows.Entry) S → List ℕ
    → Option BallDeviceEntry
found_ball_device devices name = option_map as_ball_device (lookup (has_bytes name) devices.entries)

abbrev pub found_shot : {S : Type 0} → HashMap (Bor (List ℕ)) (Bor entry_rows.Entry) S → List ℕ → Option Shot
found_shot shots name = option_map as_shot (lookup (has_bytes name) shots.entries)

abbrev pub found_profile : {S : Type 0} → HashMap (Bor (List ℕ)) profiles.Profile S → List ℕ → Option Profile
found_profile table name = option_map profile_view (lookup (has_bytes name) table.entries)

-- by each name the coil that has it is found
abbrev pub HasCoils : {S : Type 0} → List SectionRows → HashMap (Bor (List ℕ)) (Bor entry_rows.Entry) S → Type 0
HasCoils machine coils = (name : List ℕ) → found_coil coils name ≡ coil_called machine name

-- the names of switches are found, and those of switches that are made quick
abbrev pub HasSwitches : {S : Type 0} → List SectionRows → HashSet (Bor (List ℕ)) S → Type 0
HasSwitches machine names = (name : List ℕ) → is_found names name ≡ has_switch machine name

abbrev pub HasQuick : {S : Type 0} → List SectionRows → HashSet (Bor (List ℕ)) S → Type 0
HasQuick machine names = (name : List ℕ) → is_found names name ≡ makes_quick machine name

-- by each name the ball device that has it is found
abbrev pub HasBallDevices : {S : Type 0} → List SectionRows → HashMap (Bor (List ℕ)) (Bor entry_rows.Entry) S → Type 0
HasBallDevices machine devices = (name : List ℕ) → found_ball_device devices name ≡ ball_device_called machine name

-- the shots and the profiles of all texts
abbrev pub HasShots : {S : Type 0} → Rows → HashMap (Bor (List ℕ)) (Bor entry_rows.Entry) S → Type 0
HasShots rows shots = (name : List ℕ) → found_shot shots name ≡ shot_called rows name

abbrev pub HasProfiles : {S : Type 0} → Rows → HashMap (Bor (List ℕ)) profiles.Profile S → Type 0
HasProfiles rows table = (name : List ℕ) → found_profile table name ≡ profile_called rows name

-- ---- what a map gains

-- Under each name is found what was, or the last of these that has the name.
abbrev pub GainsCoils : {S : Type 0} → (old new : HashMap (Bor (List ℕ)) (Bor entry_rows.Entry) S) → List Coil → Type 0
GainsCoils old new more = (name : List ℕ) → found_coil new name ≡ fold (latest_coil name) (found_coil old name) more

abbrev pub GainsBallDevices : {S : Type 0} → (old new : HashMap (Bor (List ℕ)) (Bor entry_rows.Entry) S)
    → List BallDeviceEntry → Type 0
GainsBallDevices old new more = (name : List ℕ)
    → found_ball_device new name ≡ fold (latest_ball_device name) (found_ball_device old name) more

abbrev pub GainsShots : {S : Type 0} → (old new : HashMap (Bor (List ℕ)) (Bor entry_rows.Entry) S) → List Shot → Type 0
GainsShots old new more = (name : List ℕ) → found_shot new name ≡ fold (latest_shot name) (found_shot old name) more

abbrev pub GainsProfiles : {S : Type 0} → (old new : HashMap (Bor (List ℕ)) profiles.Profile S) → List Profile → Type 0
GainsProfiles old new more = (name : List ℕ)
    → found_profile new name ≡ fold (latest_profile name) (found_profile old name) more

-- a name is found that was found, or that is one of these
abbrev pub GainsNames : {S : Type 0} → (old new : HashSet (Bor (List ℕ)) S) → (is_one : List ℕ → Bool) → Type 0
GainsNames old new is_one = (name : List ℕ) → is_found new name ≡ (is_found old name || is_one name)

-- ---- entries of a list, as what they are read

abbrev pub as_coils : List entry_rows.Entry → List Coil
as_coils entries = map coil_of (map entry_view entries)

abbrev pub as_ball_devices : List entry_rows.Entry → List BallDeviceEntry
as_ball_devices entries = map ball_device_of (map entry_view entries)

abbrev pub as_shots : List entry_rows.Entry → List Shot
as_shots entries = map shot_of (map entry_view entries)

abbrev pub as_profile : entry_rows.Entry → Profile
as_profile entry = profile_of (shot_profile_of (entry_view entry))

abbrev pub as_profiles : List entry_rows.Entry → List Profile
as_profiles entries = map profile_of (map shot_profile_of (map entry_view entries))

-- the names of the states of a profile
abbrev pub as_states : List field_rows.Fields → List (List ℕ)
as_states maps = map (λ w. w.text) (filter_map state_of (map fields_view maps))

-- whether one of them defines a switch of this name; whether one has this name at a place
abbrev pub defines_switch : List entry_rows.Entry → List ℕ → Bool
defines_switch entries name = list_any (λ s. bytes_eq name s.name.text) (map switch_of (map entry_view entries))

abbrev pub is_named_at : ℕ → List entry_rows.Entry → List ℕ → Bool
is_named_at place entries name = list_any (bytes_eq name) (names_at (Some place) (map entry_view entries))

-- whether the entries of a section make the switch of this name quick
abbrev pub is_made_quick : Section → List ℕ → Bool
is_made_quick s name = list_any (bytes_eq name) (quick_switches (section_view s))

-- ---- sections of the program

-- what they hold
abbrev pub section_rows : List Section → List SectionRows
section_rows sections = map section_view sections

-- the shots and the profiles that they define
abbrev pub shots_among : List Section → List Shot
shots_among sections = flat_map shots_in (section_rows sections)

abbrev pub profiles_among : List Section → List Profile
profiles_among sections = map profile_of (flat_map shot_profiles_in (section_rows sections))

-- what all fields of `Definitions` hold, if it is of these rows
pub record IsDefined {S : Type 0} (rows : Rows) (coils : HashMap (Bor (List ℕ)) (Bor entry_rows.Entry) S)
    (switches quick : HashSet (Bor (List ℕ)) S) (devices : HashMap (Bor (List ℕ)) (Bor entry_rows.Entry) S)
    (shots : HashMap (Bor (List ℕ)) (Bor entry_rows.Entry) S)
    (table : HashMap (Bor (List ℕ)) profiles.Profile S) (standard : profiles.Profile) : Type 0 where
  pub coils_found : HasCoils rows.machine coils
  pub switches_found : HasSwitches rows.machine switches
  pub quick_found : HasQuick rows.machine quick
  pub devices_found : HasBallDevices rows.machine devices
  pub shots_found : HasShots rows shots
  pub profiles_found : HasProfiles rows table
  pub standard_is : profile_view standard ≡ standard_profile
