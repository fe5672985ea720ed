use Rattle.std.proofs.Common.{◌≡◌, ◌++◌, length, map}
use Rattle.mpf_values.specs.{Lists.item_at, Reading.items_of, View.items_view}
use Rattle.mpf_values.proofs.items.text_items.Given as goal

abbrev pub invariant-loop-item : goal.invariant-loop-item
invariant-loop-item l = items_view l.items.items ++ map (item_at l.line) (items_of l.rest)
    ≡ map (item_at l.line) (items_of l.text)

abbrev pub decreases-loop-item : goal.decreases-loop-item
decreases-loop-item l = length l.rest
