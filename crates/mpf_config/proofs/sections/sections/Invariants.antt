use Rattle.std.proofs.Common.{◌≡◌, drop}
use Rattle.mpf_config.{specs.{Unread.read_of, Reading.section_at, CodeViews.sections_view}, proofs.EachRead.with_front}
use Rattle.setting_values.specs.{Reading.each_read, View.pairs_view}
use Rattle.mpf_config.proofs.sections.sections.Given as goal

abbrev pub invariant-loop-entry : goal.invariant-loop-entry
invariant-loop-entry l =
    with_front (sections_view l.sections) (each_read (section_at l.kind l.text)
    (read_of (pairs_view (drop l.entry-index l.entries))))
    ≡ each_read (section_at l.kind l.text) (read_of (pairs_view l.entries))
