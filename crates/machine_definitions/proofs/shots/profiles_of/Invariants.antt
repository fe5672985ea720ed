use Rattle.std.{proofs.Common.{◌≡◌, ℕ, List, fold, map, drop}, specs.List.flat_map}
use Rattle.mpf_sections.specs.TypedShots.{shot_profiles_in}
use Rattle.mpf_config.specs.View.{mode_view, rows_view}
use Rattle.machine_definitions.specs.{Shots.{latest_profile, profile_of, profile_called}, Found.found_profile}
use Rattle.machine_definitions.proofs.shots.profiles_of.Given as goal

abbrev pub invariant-loop-mode : goal.invariant-loop-mode
invariant-loop-mode l =
    (name : List ℕ) → fold (latest_profile name) (found_profile l.profiles name)
    (map profile_of (flat_map shot_profiles_in
    (flat_map (λ m. m.sections) (map mode_view (drop l.mode-index l.modes)))))
    ≡ profile_called (rows_view l.config) name
