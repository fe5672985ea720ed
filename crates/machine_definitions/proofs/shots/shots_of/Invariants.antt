use Rattle.std.{proofs.Common.{◌≡◌, ℕ, List, fold, map, drop}, specs.List.flat_map}
use Rattle.mpf_sections.specs.TypedShots.{shots_in}
use Rattle.mpf_config.specs.View.{mode_view, rows_view}
use Rattle.machine_definitions.specs.{Shots.{latest_shot, shot_called}, Found.found_shot}
use Rattle.machine_definitions.proofs.shots.shots_of.Given as goal

abbrev pub invariant-loop-mode : goal.invariant-loop-mode
invariant-loop-mode l =
    (name : List ℕ) → fold (latest_shot name) (found_shot l.shots name)
    (flat_map shots_in (flat_map (λ m. m.sections) (map mode_view (drop l.mode-index l.modes))))
    ≡ shot_called (rows_view l.config) name
