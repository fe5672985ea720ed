use Rattle.std.{proofs.Common.{◌≡◌, map, drop}, specs.List.flat_map}
use Rattle.mpf_sections.specs.{TypedGame.variable_item_of, View.keyed_view}
use Rattle.row_faults.specs.{VariableFaults.variable_item_faults, Collected.with_faults}
use Rattle.row_faults.proofs.variable_faults.add_items.Given as goal

abbrev pub invariant-loop-item : goal.invariant-loop-item
invariant-loop-item l =
    with_faults l.faults (flat_map (variable_item_faults l.faults.modes l.faults.text)
    (map variable_item_of (map keyed_view (drop l.item-index l.items))))
    ≡ with_faults l.initial.faults (flat_map (variable_item_faults l.initial.faults.modes l.initial.faults.text)
    (map variable_item_of (map keyed_view l.items)))
