use Rattle.std.proofs.Common.{◌≡◌, ◌++◌, drop}
use Rattle.setting_values.specs.View.{pairs_view}
use Rattle.mpf_config.specs.{Unread.machine_notes, CodeViews.{texts_view, modes_view, notes_view}}
use Rattle.mpf_config.proofs.unread.machine_notes.Given as goal

abbrev pub invariant-loop-section : goal.invariant-loop-section
invariant-loop-section l =
    notes_view l.notes ++ machine_notes (texts_view l.texts) (modes_view l.modes)
    (pairs_view (drop l.section-index l.sections))
    ≡ machine_notes (texts_view l.texts) (modes_view l.modes) (pairs_view l.sections)
