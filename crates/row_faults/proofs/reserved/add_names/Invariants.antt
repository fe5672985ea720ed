use Rattle.std.proofs.Common.{◌≡◌, map, drop}
use Rattle.mpf_sections.specs.View.{name_view}
use Rattle.row_faults.specs.Collected.{with_faults, post_faults}
use Rattle.row_faults.proofs.reserved.add_names.Given as goal

abbrev pub invariant-loop-name : goal.invariant-loop-name
invariant-loop-name l =
    with_faults l.faults (post_faults l.faults (map name_view (drop l.name-index l.names)))
    ≡ with_faults l.initial.faults (post_faults l.initial.faults (map name_view l.names))
