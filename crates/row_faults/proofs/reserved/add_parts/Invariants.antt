use Rattle.std.{proofs.Common.{◌≡◌, map, drop}, specs.List.flat_map}
use Rattle.mpf_sections.specs.View.{name_view}
use Rattle.row_faults.specs.Collected.{with_faults, post_faults}
use Rattle.row_faults.proofs.reserved.add_parts.Given as goal

abbrev pub invariant-loop-part : goal.invariant-loop-part
invariant-loop-part l =
    with_faults l.faults (post_faults l.faults
    (flat_map (λ part. map name_view part.1.now) (drop l.part-index l.parts)))
    ≡ with_faults l.initial.faults (post_faults l.initial.faults (flat_map (λ part. map name_view part.1.now) l.parts))
