use Rattle.std.proofs.Common.{◌≡◌, ℕ, List, fold, map, drop}
use Rattle.mpf_sections.specs.{TypedShots.shot_profile_of, View.entry_view}
use Rattle.machine_definitions.specs.{Shots.{latest_profile, profile_of}, Found.found_profile}
use Rattle.machine_definitions.proofs.shots.add_profiles.Given as goal

abbrev pub invariant-loop-entry : goal.invariant-loop-entry
invariant-loop-entry l =
    (name : List ℕ) → fold (latest_profile name) (found_profile l.profiles name)
    (map profile_of (map shot_profile_of (map entry_view (drop l.entry-index l.entries))))
    ≡ fold (latest_profile name) (found_profile l.initial.profiles name)
    (map profile_of (map shot_profile_of (map entry_view l.entries)))
