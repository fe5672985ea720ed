use Rattle.std.{proofs.Common.{◌≡◌, map, drop}, specs.List.flat_map}
use Rattle.mpf_sections.specs.{Typed.switch_of, View.entry_view}
use Rattle.row_faults.specs.{Reserved.switch_posts, Collected.{with_faults, post_faults}}
use Rattle.row_faults.proofs.reserved.add_switches.Given as goal

abbrev pub invariant-loop-entry : goal.invariant-loop-entry
invariant-loop-entry l =
    with_faults l.faults (post_faults l.faults
    (flat_map switch_posts (map switch_of (map entry_view (drop l.entry-index l.entries)))))
    ≡ with_faults l.initial.faults (post_faults l.initial.faults
    (flat_map switch_posts (map switch_of (map entry_view l.entries))))
