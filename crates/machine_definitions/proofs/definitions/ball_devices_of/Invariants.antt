use Rattle.std.{proofs.Common.{◌≡◌, ℕ, List, fold, map, drop}, specs.List.flat_map}
use Rattle.mpf_sections.specs.{TypedBalls.ball_devices_in, View.section_view}
use Rattle.machine_definitions.specs.{Definitions.{latest_ball_device, ball_device_called}, Found.found_ball_device}
use Rattle.machine_definitions.proofs.definitions.ball_devices_of.Given as goal

abbrev pub invariant-loop-section : goal.invariant-loop-section
invariant-loop-section l =
    (name : List ℕ) → fold (latest_ball_device name) (found_ball_device l.devices name)
    (flat_map ball_devices_in (map section_view (drop l.section-index l.sections)))
    ≡ ball_device_called (map section_view l.sections) name
