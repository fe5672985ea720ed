use Rattle.std.proofs.Common.{◌≡◌, map, drop}
use Rattle.mpf_sections.specs.{Typed.content_named, View.section_view}
use Rattle.mpf_sections.proofs.typed.section_named.Given as goal

abbrev pub invariant-loop-section : goal.invariant-loop-section
invariant-loop-section l = content_named l.name (map section_view l.sections)
    ≡ content_named l.name (map section_view (drop l.section-index l.sections))
