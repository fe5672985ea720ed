use Rattle.std.{proofs.Common.{◌≡◌, ℕ, List, fold, map, drop}, specs.List.flat_map}
use Rattle.mpf_sections.specs.{TypedShots.shot_profiles_in, View.section_view}
use Rattle.machine_definitions.specs.{Shots.{latest_profile, profile_of}, Found.found_profile}
use Rattle.machine_definitions.proofs.shots.add_text_profiles.Given as goal

abbrev pub invariant-loop-section : goal.invariant-loop-section
invariant-loop-section l =
    (name : List ℕ) → fold (latest_profile name) (found_profile l.profiles name)
    (map profile_of (flat_map shot_profiles_in (map section_view (drop l.section-index l.sections))))
    ≡ fold (latest_profile name) (found_profile l.initial.profiles name)
    (map profile_of (flat_map shot_profiles_in (map section_view l.sections)))
