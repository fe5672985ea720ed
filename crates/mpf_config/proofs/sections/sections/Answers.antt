use Rattle.std.proofs.Common.{rules, ◌≡◌, ◌+◌, [], ◌∷◌, ◌++◌, drop, not, ap, sym, ◌∙◌}
use Rattle.std.proofs.lemmas.{List.map_push, Result.err_from_is_err_and}
use Rattle.yaml_subset.specs.View.{pair_view}
use Rattle.mpf_config.specs.{Unread.{is_skipped, read_of}, Reading.{section_at, sections_at}, CodeViews.sections_view}
use Rattle.setting_values.specs.{Reading.each_read, View.pairs_view}
use Rattle.mpf_sections.specs.View.{section_view}
use Rattle.mpf_config.proofs.{EachRead.{goes_on, fails, is_done}, Pairs.{pairs_at, none_behind}, Kept.keeps_first}
use Rattle.mpf_config.proofs.sections.sections.Goals as goal

pub returns-in_err-section : goal.returns-in_err-section
unfolding sections_at
returns-in_err-section c =
    let entries = c.args.entries.now in
    let i = c.loop-entry.entry-index in
    let entry = c.entry-item.result in
    let rest = pairs_view (drop (i + 1) entries) in
    let is_read = ap not (sym (rw c.deref.ensures.value at c.is_skipped.ensures) ∙ c.if-is_skipped.false) in
    let first = keeps_first (λ p. not (is_skipped p.key)) (pair_view entry) rest (pairs_view (drop i entries))
    (pairs_at entries i entry c.loop-entry-test.true c.entry-item.is) is_read in
    let p = err_from_is_err_and c.from_residual.result c.from_residual.ensures.1 in
    rw (p.1, p.2)
    (fails (section_at c.args.kind c.args.text.now) (sections_view c.loop-entry.sections) (pair_view entry)
    (read_of rest) (read_of (pairs_view (drop i entries)))
    (each_read (section_at c.args.kind c.args.text.now) (read_of (pairs_view entries))) c.in_err-section.field-0.0 first
    c.in_err-section.ensures c.loop-entry.invariant)

pub loop-entry-preserved : goal.loop-entry-preserved
loop-entry-preserved c =
    let entries = c.args.entries.now in
    let i = c.loop-entry.entry-index in
    let entry = c.entry-item.result in
    let rest = pairs_view (drop (i + 1) entries) in
    let is_read = ap not (sym (rw c.deref.ensures.value at c.is_skipped.ensures) ∙ c.if-is_skipped.false) in
    let first = keeps_first (λ p. not (is_skipped p.key)) (pair_view entry) rest (pairs_view (drop i entries))
    (pairs_at entries i entry c.loop-entry-test.true c.entry-item.is) is_read in
    let section = c.in_ok-section.section in
    let pushed : sections_view c.push.new.self ≡ sections_view c.loop-entry.sections ++ section_view section ∷ [] =
    rw c.in_ok-push.ensures.items (map_push _ c.loop-entry.sections.items section) in
    rw pushed
    (goes_on (section_at c.args.kind c.args.text.now) (sections_view c.loop-entry.sections) (pair_view entry)
    (read_of rest) (read_of (pairs_view (drop i entries)))
    (each_read (section_at c.args.kind c.args.text.now) (read_of (pairs_view entries))) (section_view section) first
    c.in_ok-section.ensures c.loop-entry.invariant)

pub returns : goal.returns
unfolding sections_at
returns c = search (rules, is_done, none_behind)
