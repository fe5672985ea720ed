use Rattle.std.{proofs.Common.{◌≡◌, map, drop}, specs.List.flat_map}
use Rattle.mpf_sections.specs.{TypedShots.shot_groups_in, View.section_view}
use Rattle.row_faults.proofs.shot_faults.have_no_groups.Given as goal

abbrev pub invariant-loop-section : goal.invariant-loop-section
invariant-loop-section l =
    flat_map shot_groups_in (map section_view (drop l.section-index l.sections))
    ≡ flat_map shot_groups_in (map section_view l.sections)
