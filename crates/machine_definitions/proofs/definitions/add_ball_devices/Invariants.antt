use Rattle.std.proofs.Common.{◌≡◌, ℕ, List, fold, map, drop}
use Rattle.mpf_sections.specs.{TypedBalls.ball_device_of, View.entry_view}
use Rattle.machine_definitions.specs.{Definitions.latest_ball_device, Found.found_ball_device}
use Rattle.machine_definitions.proofs.definitions.add_ball_devices.Given as goal

abbrev pub invariant-loop-entry : goal.invariant-loop-entry
invariant-loop-entry l =
    (name : List ℕ) → fold (latest_ball_device name) (found_ball_device l.devices name)
    (map ball_device_of (map entry_view (drop l.entry-index l.entries)))
    ≡ fold (latest_ball_device name) (found_ball_device l.initial.devices name)
    (map ball_device_of (map entry_view l.entries))
