use Rattle.std.proofs.Common.{◌≡◌, ◌++◌, ℕ, Bool, List, map, drop, ◌+◌, ap, ◌∙◌}
use Rattle.mpf_sections.specs.View.{section_view}
use Rattle.machine_definitions.{specs.Found.is_found, proofs.Finding.next-is}
use Rattle.row_faults.specs.{Collected.{FaultsView, with_faults}, RowFaults.{section_faults, written_faults}}
use Rattle.row_faults.specs.ShotFaults.{listed_in, listed_of, taken_after}
use Rattle.row_faults.proofs.{Collected.with-more, Listed.taken-more}
use Rattle.row_faults.proofs.rows.add_sections.Goals as goal

pub loop-section-preserved : goal.loop-section-preserved
loop-section-preserved c =
    let l = c.loop-section in
    let f = l.faults in
    let own = is_found c.args.own.now in
    let section = section_view c.section-item.result in
    let each = section_faults f.modes f.rows own (is_found l.shots_before) f.text section in
    let all = λ (g : FaultsView) (is_taken : List ℕ → Bool) (sections : List _). written_faults g.modes g.rows own
    is_taken g.text (map section_view sections) in
    let others = drop (l.section-index + 1) c.args.sections.now in
    let ls = listed_in f.rows section in
    let after = is_found c.add_section.new.shots_before in
    let found : c.add_section.new.faults ≡ with_faults f each = c.in_ok-add_section.ensures.faults in
    let taken = c.in_ok-add_section.ensures.takes in
    record {
      found_faults =
          ap (λ (g : FaultsView). with_faults g (all g after others)) found
          ∙ with-more f each (all f after others)
          ∙ ap (λ (test : List ℕ → Bool). with_faults f (each ++ all f test others)) taken
          ∙ next-is (λ sections. with_faults f (all f (is_found l.shots_before) sections)) c.args.sections.now
          l.section-index c.section-item.result c.loop-section-test.true c.section-item.is
          ∙ l.invariant.found_faults;
      taken =
          ap (λ (g : FaultsView). taken_after after (listed_of g.rows (map section_view others))) found
          ∙ taken-more (is_found l.shots_before) after ls (listed_of f.rows (map section_view others)) taken
          ∙ next-is (λ sections. taken_after (is_found l.shots_before) (listed_of f.rows (map section_view sections)))
          c.args.sections.now l.section-index c.section-item.result c.loop-section-test.true c.section-item.is
          ∙ l.invariant.taken;
    }
