use Rattle.std.proofs.Common.{◌≡◌, ◌++◌, drop}
use Rattle.mpf_config.specs.{Unread.unlisted_notes, CodeViews.{texts_view, modes_view, notes_view}}
use Rattle.mpf_config.proofs.unread.add_unlisted.Given as goal

abbrev pub invariant-loop-text : goal.invariant-loop-text
invariant-loop-text l =
    notes_view l.notes ++ unlisted_notes (modes_view l.modes) (texts_view (drop l.text-index l.texts))
    ≡ notes_view l.fn.notes ++ unlisted_notes (modes_view l.modes) (texts_view l.texts)
