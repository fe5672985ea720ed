use Rattle.std.{proofs.Common.{◌≡◌, map, drop}, specs.List.filter}
use Rattle.mpf_sections.specs.{Typed.timer_of, View.entry_view}
use Rattle.row_faults.specs.{RowFaults.{starts_at_end, timer_fault}, Collected.with_faults}
use Rattle.row_faults.proofs.rows.add_timers.Given as goal

abbrev pub invariant-loop-entry : goal.invariant-loop-entry
invariant-loop-entry l =
    with_faults l.faults (map (timer_fault l.faults.text)
    (filter starts_at_end (map timer_of (map entry_view (drop l.entry-index l.entries)))))
    ≡ with_faults l.initial.faults (map (timer_fault l.initial.faults.text)
    (filter starts_at_end (map timer_of (map entry_view l.entries))))
