use Rattle.std.proofs.Common.{◌≡◌, ℕ, List, fold, map, drop}
use Rattle.mpf_sections.specs.{TypedCoils.coil_of, View.entry_view}
use Rattle.machine_definitions.specs.{Definitions.latest_coil, Found.found_coil}
use Rattle.machine_definitions.proofs.definitions.add_coils.Given as goal

abbrev pub invariant-loop-entry : goal.invariant-loop-entry
invariant-loop-entry l =
    (name : List ℕ) → fold (latest_coil name) (found_coil l.coils name)
    (map coil_of (map entry_view (drop l.entry-index l.entries)))
    ≡ fold (latest_coil name) (found_coil l.initial.coils name) (map coil_of (map entry_view l.entries))
