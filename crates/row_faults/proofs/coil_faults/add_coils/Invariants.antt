use Rattle.std.{proofs.Common.{◌≡◌, map, drop}, specs.List.flat_map}
use Rattle.mpf_sections.specs.{TypedCoils.coil_of, View.entry_view}
use Rattle.row_faults.specs.{CoilFaults.coil_faults, Collected.with_faults}
use Rattle.row_faults.proofs.coil_faults.add_coils.Given as goal

abbrev pub invariant-loop-entry : goal.invariant-loop-entry
invariant-loop-entry l =
    with_faults l.faults (flat_map (coil_faults l.faults.text)
    (map coil_of (map entry_view (drop l.entry-index l.entries))))
    ≡ with_faults l.initial.faults (flat_map (coil_faults l.initial.faults.text)
    (map coil_of (map entry_view l.entries)))
