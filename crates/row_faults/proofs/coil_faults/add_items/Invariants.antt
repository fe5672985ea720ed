use Rattle.std.{proofs.Common.{◌≡◌, map, drop}, specs.List.flat_map}
use Rattle.mpf_sections.specs.{TypedCoils.coil_item_of, View.keyed_view}
use Rattle.row_faults.specs.{CoilFaults.item_faults, Collected.with_faults}
use Rattle.row_faults.proofs.coil_faults.add_items.Given as goal

abbrev pub invariant-loop-item : goal.invariant-loop-item
invariant-loop-item l =
    with_faults l.faults (flat_map (item_faults l.faults.rows.machine l.faults.text)
    (map coil_item_of (map keyed_view (drop l.item-index l.items))))
    ≡ with_faults l.initial.faults (flat_map (item_faults l.initial.faults.rows.machine l.initial.faults.text)
    (map coil_item_of (map keyed_view l.items)))
