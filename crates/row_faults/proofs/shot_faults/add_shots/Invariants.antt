use Rattle.std.{proofs.Common.{◌≡◌, map, drop}, specs.List.flat_map}
use Rattle.mpf_sections.specs.{TypedShots.shot_of, View.entry_view}
use Rattle.row_faults.specs.{ShotFaults.shot_faults, Collected.with_faults}
use Rattle.row_faults.proofs.shot_faults.add_shots.Given as goal

abbrev pub invariant-loop-entry : goal.invariant-loop-entry
invariant-loop-entry l =
    with_faults l.faults (flat_map (shot_faults l.faults.rows l.faults.text)
    (map shot_of (map entry_view (drop l.entry-index l.entries))))
    ≡ with_faults l.initial.faults (flat_map (shot_faults l.initial.faults.rows l.initial.faults.text)
    (map shot_of (map entry_view l.entries)))
