use Rattle.std.proofs.{Common.{◌+◌, drop, map, subst, ◌∙◌}, lemmas.Result.err_from_is_err_and}
use Rattle.mpf_sections.specs.View.{section_view}
use Rattle.mpf_config.specs.{View.FailsRows, CodeViews.copies_view}
use Rattle.mpf_config.proofs.{ListLoops.mapped_at, TakenEntries.{takes_section, knows_section, fails_section}}
use Rattle.mpf_config.proofs.taken.take_entries.Goals as goal

pub returns-in_err-take_section-clause-value : goal.returns-in_err-take_section-clause-value
returns-in_err-take_section-clause-value c =
    let sections = c.args.sections.now in
    let i = c.loop-section.section-index in
    let section = c.section-item.result in
    let first = mapped_at section_view sections i section c.loop-section-test.true c.section-item.is in
    let fault = c.in_err-take_section.field-0.0 in
    let keys = copies_view c.loop-section.known_keys in
    let fails = fails_section c.args.text.now keys (section_view section) (map section_view (drop (i + 1) sections))
    (map section_view (drop i sections)) first fault c.in_err-take_section.ensures.value in
    let p = err_from_is_err_and c.from_residual.result c.from_residual.ensures.1 in
    rw (p.1, p.2) (subst (FailsRows fault) c.loop-section.invariant.so_far fails)

pub loop-section-preserved : goal.loop-section-preserved
loop-section-preserved c =
    let sections = c.args.sections.now in
    let i = c.loop-section.section-index in
    let section = c.section-item.result in
    let first = mapped_at section_view sections i section c.loop-section-test.true c.section-item.is in
    let keys = copies_view c.loop-section.known_keys in
    let more = copies_view c.take_section.new.known_keys in
    let known = c.in_ok-take_section.ensures.known in
    record {
      so_far =
          takes_section c.args.text.now keys (section_view section) (map section_view (drop (i + 1) sections))
          (map section_view (drop i sections)) first more
          c.in_ok-take_section.field-0 c.in_ok-take_section.ensures.value known
          ∙ c.loop-section.invariant.so_far;
      known = λ q.
          knows_section c.args.text.now keys (section_view section) (map section_view (drop (i + 1) sections))
          (map section_view (drop i sections)) first more known q
          ∙ c.loop-section.invariant.known q;
    }
