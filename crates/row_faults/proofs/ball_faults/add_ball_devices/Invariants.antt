use Rattle.std.{proofs.Common.{◌≡◌, map, drop}, specs.List.flat_map}
use Rattle.mpf_sections.specs.{TypedBalls.ball_device_of, View.entry_view}
use Rattle.row_faults.specs.{BallFaults.ball_device_faults, Collected.with_faults}
use Rattle.row_faults.proofs.ball_faults.add_ball_devices.Given as goal

abbrev pub invariant-loop-entry : goal.invariant-loop-entry
invariant-loop-entry l =
    with_faults l.faults (flat_map (ball_device_faults l.faults.rows.machine l.faults.text)
    (map ball_device_of (map entry_view (drop l.entry-index l.entries))))
    ≡ with_faults l.initial.faults (flat_map (ball_device_faults l.initial.faults.rows.machine l.initial.faults.text)
    (map ball_device_of (map entry_view l.entries)))
