use Rattle.std.proofs.Common.{◌+◌, drop, map, sym, ◌∙◌}
use Rattle.mpf_sections.specs.View.{section_view, entry_view}
use Rattle.mpf_config.proofs.{ListLoops.mapped_at, BesideMachine.none_here}
use Rattle.mpf_config.proofs.taken.have_entries.Goals as goal

pub loop-section-preserved : goal.loop-section-preserved
loop-section-preserved c =
    let sections = c.args.sections.now in
    let i = c.loop-section.section-index in
    let section = c.section-item.result in
    let first = mapped_at section_view sections i section c.loop-section-test.true c.section-item.is in
    none_here (section_view section) (map section_view (drop (i + 1) sections)) (map section_view (drop i sections))
    entry_view c.entries.result.now first c.entries.ensures
    (sym c.is_empty.ensures ∙ c.if-not-is_empty.false)
    ∙ c.loop-section.invariant
