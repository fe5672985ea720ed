use Rattle.std.proofs.Common.{◌≡◌, ◌++◌, map, drop}
use Rattle.mpf_config.specs.View.{mode_view}
use Rattle.machine_definitions.specs.Found.{is_found}
use Rattle.row_faults.specs.{RowFaults.mode_faults, View.{events_view, row_faults_view}}
use Rattle.row_faults.proofs.rows.add_modes.Given as goal

abbrev pub invariant-loop-text : goal.invariant-loop-text
invariant-loop-text l =
    row_faults_view l.faults.items ++ mode_faults (events_view l.modes) l.definitions (is_found l.shots_before)
    (map mode_view (drop l.text-index l.texts))
    ≡ row_faults_view l.initial.faults.items
    ++ mode_faults (events_view l.modes) l.definitions (is_found l.initial.shots_before) (map mode_view l.texts)
