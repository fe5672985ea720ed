use Rattle.std.{proofs.Common.{◌≡◌, ℕ, List, fold, map, drop}, specs.List.flat_map}
use Rattle.mpf_sections.specs.{TypedCoils.coils_in, View.section_view}
use Rattle.machine_definitions.specs.{Definitions.{latest_coil, coil_called}, Found.found_coil}
use Rattle.machine_definitions.proofs.definitions.coils_of.Given as goal

abbrev pub invariant-loop-section : goal.invariant-loop-section
invariant-loop-section l =
    (name : List ℕ) → fold (latest_coil name) (found_coil l.coils name)
    (flat_map coils_in (map section_view (drop l.section-index l.sections)))
    ≡ coil_called (map section_view l.sections) name
