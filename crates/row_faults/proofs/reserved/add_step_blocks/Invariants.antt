use Rattle.std.{proofs.Common.{◌≡◌, map, drop}, specs.List.flat_map}
use Rattle.mpf_sections.specs.{Typed.step_block_of, View.entry_view}
use Rattle.row_faults.specs.{Reserved.step_posts, Collected.{with_faults, post_faults}}
use Rattle.row_faults.proofs.reserved.add_step_blocks.Given as goal

abbrev pub invariant-loop-entry : goal.invariant-loop-entry
invariant-loop-entry l =
    with_faults l.faults (post_faults l.faults
    (flat_map step_posts (map step_block_of (map entry_view (drop l.entry-index l.entries)))))
    ≡ with_faults l.initial.faults (post_faults l.initial.faults
    (flat_map step_posts (map step_block_of (map entry_view l.entries))))
