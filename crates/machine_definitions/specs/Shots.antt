-- The shots of all texts, and their profiles, by name.
use Rattle.std.specs.Prelude.{ℕ, Bool, true, false, ◌||◌, if◌then◌else◌, List, [], ◌∷◌, ◌++◌, map, fold, Option, None}
use Rattle.std.specs.{Prelude.{Some, is_some, unwrap_or, codes}, List.flat_map, Str.bytes_eq}
use Rattle.mpf_sections.specs.Rows.{Shot, ShotProfile, SectionRows}
use Rattle.mpf_sections.specs.TypedShots.{default_profile, shots_in, shot_profiles_in}
use Rattle.mpf_config.specs.Rows.{Rows}

-- the sections of all texts: of the machine text, then of the modes' texts
abbrev pub all_sections : Rows → List SectionRows
all_sections rows = rows.machine ++ flat_map (λ m. m.sections) rows.modes

-- ---- shots

-- the shot of this name, if there is one; of two the later
abbrev pub latest_shot : List ℕ → Option Shot → Shot → Option Shot
latest_shot name earlier s = if bytes_eq name s.name.text then Some s else earlier

abbrev pub shot_called : Rows → List ℕ → Option Shot
shot_called rows name = fold (latest_shot name) None (flat_map shots_in (all_sections rows))

-- ---- profiles

-- A profile: its name, the names of its states, first to last, whether a hit advances a shot to the next one, and
-- whether the first one comes after the last.
pub record Profile : Type 0 where
  pub name : List ℕ
  pub states : List (List ℕ)
  pub advance_on_hit : Bool
  pub loops : Bool

abbrev pub profile_of : ShotProfile → Profile
profile_of p = record {
  name = p.name.text;
  states = map (λ w. w.text) p.states;
  advance_on_hit = p.advance_on_hit;
  loops = p.loops;
}

-- the profile of shots whose entries name none
abbrev pub standard_profile : Profile
standard_profile = record {
  name = default_profile;
  states = codes "unlit" ∷ codes "lit" ∷ [];
  advance_on_hit = true;
  loops = false;
}

abbrev pub latest_profile : List ℕ → Option Profile → Profile → Option Profile
latest_profile name earlier p = if bytes_eq name p.name then Some p else earlier

-- the profile that an entry defines under this name, if there is one; of two the later
abbrev pub profile_called : Rows → List ℕ → Option Profile
profile_called rows name = fold (latest_profile name) None
    (map profile_of (flat_map shot_profiles_in (all_sections rows)))

-- whether there is a profile of this name: the standard one, or one that an entry defines
abbrev pub has_profile : Rows → List ℕ → Bool
has_profile rows name = bytes_eq name default_profile || is_some (profile_called rows name)

-- the profile of this name; if no entry defines one, the standard one
abbrev pub profile_of_name : Rows → List ℕ → Profile
profile_of_name rows name = unwrap_or (profile_called rows name) standard_profile
