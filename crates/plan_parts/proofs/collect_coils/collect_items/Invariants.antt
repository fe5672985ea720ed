use Rattle.std.proofs.Common.{◌≡◌, map, drop}
use Rattle.mpf_sections.specs.{TypedCoils.coil_item_of, View.keyed_view}
use Rattle.plan_parts.specs.{CoilEntries.item_effect, Lists.with_last}
use Rattle.plan_parts.proofs.collect_coils.collect_items.Given as goal

abbrev pub invariant-loop-pair : goal.invariant-loop-pair
invariant-loop-pair l =
    with_last (map (item_effect l.definitions.machine) (map coil_item_of (map keyed_view (drop l.pair-index l.items))))
    l.lists
    ≡ with_last (map (item_effect l.definitions.machine) (map coil_item_of (map keyed_view l.items))) l.initial.lists
