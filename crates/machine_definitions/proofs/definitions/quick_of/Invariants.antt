use Rattle.std.{proofs.Common.{◌≡◌, ◌||◌, ℕ, List, map, drop}, specs.{List.{list_any, flat_map}, Str.bytes_eq}}
use Rattle.mpf_sections.specs.{CoilRules.quick_switches, View.section_view}
use Rattle.machine_definitions.specs.{Definitions.makes_quick, Found.is_found}
use Rattle.machine_definitions.proofs.definitions.quick_of.Given as goal

abbrev pub invariant-loop-section : goal.invariant-loop-section
invariant-loop-section l =
    (name : List ℕ) → (is_found l.names name
    || list_any (bytes_eq name) (flat_map quick_switches (map section_view (drop l.section-index l.sections))))
    ≡ makes_quick (map section_view l.sections) name
