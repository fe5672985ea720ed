use Rattle.std.{proofs.Common.{◌≡◌, ◌||◌, ℕ, List, map, drop}, specs.{List.{list_any, flat_map}, Str.bytes_eq}}
use Rattle.mpf_sections.specs.{Typed.switches_in, View.section_view}
use Rattle.machine_definitions.specs.{Definitions.has_switch, Found.is_found}
use Rattle.machine_definitions.proofs.definitions.switches_of.Given as goal

abbrev pub invariant-loop-section : goal.invariant-loop-section
invariant-loop-section l =
    (name : List ℕ) → (is_found l.names name
    || list_any (λ s. bytes_eq name s.name.text)
    (flat_map switches_in (map section_view (drop l.section-index l.sections))))
    ≡ has_switch (map section_view l.sections) name
