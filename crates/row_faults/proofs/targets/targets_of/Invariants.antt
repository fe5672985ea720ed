use Rattle.std.proofs.Common.{◌≡◌, ◌++◌, length, map, drop}
use Rattle.row_faults.specs.{Numbers.{number_found, number_of}, View.devices_view}
use Rattle.row_faults.proofs.targets.targets_of.Given as goal

abbrev pub invariant-loop-device : goal.invariant-loop-device
invariant-loop-device l =
    l.targets.items ++ map (λ d. number_of (number_found l.numbers) (length l.devices) d.target.text)
    (devices_view (drop l.device-index l.devices))
    ≡ map (λ d. number_of (number_found l.numbers) (length l.devices) d.target.text) (devices_view l.devices)
