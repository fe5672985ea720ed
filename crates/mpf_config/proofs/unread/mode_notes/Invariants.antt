use Rattle.std.proofs.Common.{◌≡◌, ◌++◌, drop}
use Rattle.setting_values.specs.View.{pairs_view}
use Rattle.mpf_config.specs.{Unread.mode_notes, CodeViews.notes_view}
use Rattle.mpf_config.proofs.unread.mode_notes.Given as goal

abbrev pub invariant-loop-section : goal.invariant-loop-section
invariant-loop-section l =
    notes_view l.notes ++ mode_notes l.text (pairs_view (drop l.section-index l.sections))
    ≡ mode_notes l.text (pairs_view l.sections)
