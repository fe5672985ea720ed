use Rattle.std.{proofs.Common.{◌≡◌, map, drop}, specs.List.flat_map}
use Rattle.mpf_sections.specs.{CoilRules.coil_rule_of, View.entry_view}
use Rattle.row_faults.specs.{CoilFaults.rule_faults, Collected.with_faults}
use Rattle.row_faults.proofs.coil_faults.add_all_rules.Given as goal

abbrev pub invariant-loop-entry : goal.invariant-loop-entry
invariant-loop-entry l =
    with_faults l.faults (flat_map (λ e. rule_faults l.faults.rows.machine l.faults.text
    (coil_rule_of l.section.name.items e)) (map entry_view (drop l.entry-index l.entries)))
    ≡ with_faults l.initial.faults (flat_map
    (λ e. rule_faults l.initial.faults.rows.machine l.initial.faults.text (coil_rule_of l.section.name.items e))
    (map entry_view l.entries))
