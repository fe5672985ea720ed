use Rattle.std.{proofs.Common.{◌≡◌, ℕ, List, fold, map, drop}, specs.List.flat_map}
use Rattle.mpf_sections.specs.{TypedShots.shots_in, View.section_view}
use Rattle.machine_definitions.specs.{Shots.latest_shot, Found.found_shot}
use Rattle.machine_definitions.proofs.shots.add_text_shots.Given as goal

abbrev pub invariant-loop-section : goal.invariant-loop-section
invariant-loop-section l =
    (name : List ℕ) → fold (latest_shot name) (found_shot l.shots name)
    (flat_map shots_in (map section_view (drop l.section-index l.sections)))
    ≡ fold (latest_shot name) (found_shot l.initial.shots name) (flat_map shots_in (map section_view l.sections))
