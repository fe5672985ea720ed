use Rattle.std.proofs.Common.{◌≡◌, ◌++◌, map, drop}
use Rattle.mpf_sections.specs.View.{section_view}
use Rattle.machine_definitions.specs.Definitions.{ball_devices_of}
use Rattle.row_faults.specs.View.{devices_view}
use Rattle.row_faults.proofs.routes.ball_devices_of.Given as goal

abbrev pub invariant-loop-section : goal.invariant-loop-section
invariant-loop-section l =
    devices_view l.devices.items ++ ball_devices_of (map section_view (drop l.section-index l.sections))
    ≡ ball_devices_of (map section_view l.sections)
