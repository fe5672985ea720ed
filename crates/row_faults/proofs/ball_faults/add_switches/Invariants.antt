use Rattle.std.{proofs.Common.{◌≡◌, map, drop}, specs.List.flat_map}
use Rattle.mpf_sections.specs.View.{name_view}
use Rattle.row_faults.specs.{CoilFaults.switch_name_faults, Collected.with_faults}
use Rattle.row_faults.proofs.ball_faults.add_switches.Given as goal

abbrev pub invariant-loop-switch : goal.invariant-loop-switch
invariant-loop-switch l =
    with_faults l.faults (flat_map (switch_name_faults l.faults.rows.machine l.faults.text)
    (map name_view (drop l.switch-index l.switches)))
    ≡ with_faults l.initial.faults (flat_map (switch_name_faults l.initial.faults.rows.machine l.initial.faults.text)
    (map name_view l.switches))
