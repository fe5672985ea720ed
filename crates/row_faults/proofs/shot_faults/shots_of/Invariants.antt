use Rattle.std.{proofs.Common.{◌≡◌, ◌||◌, ℕ, List, map, drop}, specs.{List.{list_any, flat_map}, Str.bytes_eq}}
use Rattle.mpf_sections.specs.{TypedShots.shots_in, View.section_view}
use Rattle.machine_definitions.specs.Found.{is_found}
use Rattle.row_faults.specs.ShotFaults.{is_own_shot}
use Rattle.row_faults.proofs.shot_faults.shots_of.Given as goal

abbrev pub invariant-loop-section : goal.invariant-loop-section
invariant-loop-section l =
    (name : List ℕ) → (is_found l.shots name
    || list_any (λ s. bytes_eq name s.name.text)
    (flat_map shots_in (map section_view (drop l.section-index l.sections))))
    ≡ is_own_shot (map section_view l.sections) name
