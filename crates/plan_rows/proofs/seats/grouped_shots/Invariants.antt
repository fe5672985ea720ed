use Rattle.std.{proofs.Common.{◌≡◌, ◌||◌, ℕ, List, map, drop}, specs.List.{list_any, flat_map}}
use Rattle.mpf_sections.specs.{TypedShots.shot_groups_in, View.section_view}
use Rattle.machine_definitions.specs.Found.{is_found}
use Rattle.plan_rows.specs.Seats.{lists_shot, is_grouped}
use Rattle.plan_rows.proofs.seats.grouped_shots.Given as goal

abbrev pub invariant-loop-section : goal.invariant-loop-section
invariant-loop-section l =
    (name : List ℕ) → (is_found l.names name
    || list_any (lists_shot name) (flat_map shot_groups_in (map section_view (drop l.section-index l.sections))))
    ≡ is_grouped (map section_view l.sections) name
