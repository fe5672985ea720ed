-- What other entries say of the shots of a group.
use Rattle.std.specs.Prelude.{Bool, true, false, List, [], ◌∷◌, ◌++◌, map, take, replicate, Option, None, Some, is_some}
use Rattle.std.specs.List.{list_all}
use Rattle.mpf_sections.specs.{Rows.{WrittenName, Shot, ShotGroup}, TypedShots.default_profile}
use Rattle.mpf_config.specs.Rows.{Rows}
use Rattle.machine_definitions.specs.Shots.{Profile, shot_called, profile_of_name}

abbrev pub is_none : {X : Type 0} → List X → Bool
is_none [] = true
is_none (x ∷ xs) = false

-- a shot is enabled at first if no event enables it
abbrev pub is_enabled : Shot → Bool
is_enabled s = is_none s.enables

-- a flag for each of 16 shots, of which these are the first and no other is set
abbrev pub flags : List Bool → List Bool
flags bs = take 16 (bs ++ replicate 16 false)

-- What is known of a group: a flag for each of its shots that says whether it is enabled at first, whether all are
-- defined, and the profile of the first. If nothing defines a shot, any value will do: there is no plan then.
pub record Members : Type 0 where
  pub enabled : List Bool
  pub all_known : Bool
  pub profile : Profile

abbrev pub is_enabled_if : Option Shot → Bool
is_enabled_if None = false
is_enabled_if (Some s) = is_enabled s

abbrev pub profile_if : Rows → Option Shot → Profile
profile_if rows None = profile_of_name rows default_profile
profile_if rows (Some s) = profile_of_name rows s.profile.text

abbrev pub first_profile : Rows → List WrittenName → Profile
first_profile rows [] = profile_if rows None
first_profile rows (w ∷ ws) = profile_if rows (shot_called rows w.text)

abbrev pub members_of : Rows → ShotGroup → Members
members_of rows g = record {
  enabled = flags (map (λ w. is_enabled_if (shot_called rows w.text)) g.shots);
  all_known = list_all (λ w. is_some (shot_called rows w.text)) g.shots;
  profile = first_profile rows g.shots;
}
