use Rattle.std.proofs.Common.{◌≡◌, map, drop}
use Rattle.mpf_sections.specs.{TypedGame.variable_item_of, View.keyed_view}
use Rattle.plan_parts.specs.{VariableEntries.item_change, Lists.with_last}
use Rattle.plan_parts.proofs.collect_variables.collect_changes.Given as goal

abbrev pub invariant-loop-pair : goal.invariant-loop-pair
invariant-loop-pair l =
    with_last (map item_change (map variable_item_of (map keyed_view (drop l.pair-index l.items)))) l.lists
    ≡ with_last (map item_change (map variable_item_of (map keyed_view l.items))) l.initial.lists
