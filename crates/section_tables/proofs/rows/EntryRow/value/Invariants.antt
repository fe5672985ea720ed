use Rattle.std.proofs.Common.{◌≡◌, ◌<◌, ◌≤◌, length, take, slice_get}
use Rattle.section_tables.specs.View.{with_written}
use Rattle.section_tables.proofs.rows.EntryRow.value.Given as goal

abbrev pub invariant-loop-at : goal.invariant-loop-at
invariant-loop-at l =
    let bare = l.self.bare.value.items in
    (l.place < length bare) × (l.at ≤ length l.self.order.items)
    × (slice_get (with_written bare (take l.at l.self.order.items) (take l.at l.self.written_values.items)) l.place
    ≡ slice_get (with_written bare l.self.order.items l.self.written_values.items) l.place)

abbrev pub decreases-loop-at : goal.decreases-loop-at
decreases-loop-at l = l.at
