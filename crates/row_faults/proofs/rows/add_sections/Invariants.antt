use Rattle.std.proofs.Common.{◌≡◌, map, drop}
use Rattle.mpf_sections.specs.View.{section_view}
use Rattle.machine_definitions.specs.Found.{is_found}
use Rattle.row_faults.specs.{Collected.with_faults, RowFaults.written_faults, ShotFaults.{listed_of, taken_after}}
use Rattle.row_faults.proofs.rows.add_sections.Given as goal

abbrev pub invariant-loop-section : goal.invariant-loop-section
invariant-loop-section l =
    let f = l.faults in
    let first = l.initial.faults in
    record {
      found_faults :
          with_faults f (written_faults f.modes f.rows (is_found l.own) (is_found l.shots_before) f.text
          (map section_view (drop l.section-index l.sections)))
          ≡ with_faults first (written_faults first.modes first.rows (is_found l.own) (is_found l.initial.shots_before)
          first.text (map section_view l.sections));
      taken :
          taken_after (is_found l.shots_before) (listed_of f.rows (map section_view (drop l.section-index l.sections)))
          ≡ taken_after (is_found l.initial.shots_before) (listed_of first.rows (map section_view l.sections));
    }
