use Rattle.std.proofs.Common.{◌≡◌, ℕ, ◌<◌, List, length, take, IfSome}
use Rattle.row_faults.specs.{Numbers.{number_found, device_at}, View.devices_view}
use Rattle.machine_definitions.specs.Definitions.{ball_device_among}
use Rattle.row_faults.proofs.targets.numbers_of.Given as goal

abbrev pub invariant-loop-number : goal.invariant-loop-number
invariant-loop-number l =
    record {
      within : (name : List ℕ) → IfSome (number_found l.numbers name) (λ n. n < length l.devices);
      by_name : (name : List ℕ) → device_at (devices_view l.devices) (number_found l.numbers name)
          ≡ ball_device_among (take l.number (devices_view l.devices)) name;
    }
