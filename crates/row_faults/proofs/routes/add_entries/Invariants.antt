use Rattle.std.proofs.Common.{◌≡◌, ◌++◌, map, drop}
use Rattle.mpf_sections.specs.{TypedBalls.ball_device_of, View.entry_view}
use Rattle.row_faults.specs.View.{devices_view}
use Rattle.row_faults.proofs.routes.add_entries.Given as goal

abbrev pub invariant-loop-entry : goal.invariant-loop-entry
invariant-loop-entry l =
    devices_view l.devices.items ++ map ball_device_of (map entry_view (drop l.entry-index l.entries))
    ≡ devices_view l.initial.devices.items ++ map ball_device_of (map entry_view l.entries)
