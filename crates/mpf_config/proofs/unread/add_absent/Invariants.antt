use Rattle.std.proofs.Common.{◌≡◌, ◌++◌, drop, map}
use Rattle.mpf_config.specs.{Unread.{absent_of, absent_note}, CodeViews.{texts_view, modes_view, notes_view}}
use Rattle.mpf_config.proofs.unread.add_absent.Given as goal

abbrev pub invariant-loop-mode : goal.invariant-loop-mode
invariant-loop-mode l =
    notes_view l.notes ++ map absent_note (absent_of (texts_view l.texts) (modes_view (drop l.mode-index l.modes)))
    ≡ notes_view l.fn.notes ++ map absent_note (absent_of (texts_view l.texts) (modes_view l.modes))
