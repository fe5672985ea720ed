use Rattle.std.proofs.Common.{◌≡◌, drop}
use Rattle.machine_definitions.specs.Found.{is_found}
use Rattle.row_faults.specs.{BallFaults.{rest_faults, route_faults}, Collected.with_faults, View.devices_view}
use Rattle.row_faults.proofs.routes.add_faults.Given as goal

abbrev pub invariant-loop-number : goal.invariant-loop-number
invariant-loop-number l =
    with_faults l.faults (rest_faults (devices_view l.devices) (is_found l.names_before) l.faults.text
    (drop l.number (devices_view l.devices)))
    ≡ with_faults l.initial.faults (route_faults l.initial.faults.text (devices_view l.devices))
