use Rattle.std.proofs.{Common.{◌≡◌, ◌+◌, true, false, [], ◌∷◌, ◌++◌, drop, get_or, sym, ap, ◌∙◌}, lemmas.List.drop_more}
use Rattle.mpf_config.specs.declared.texts.NamedText as texts
use Rattle.mpf_config.specs.Unread.{mode_text_of, is_unlisted, unlisted_note, unlisted_notes}
use Rattle.mpf_config.specs.{View.name_view, CodeViews.{text_view, texts_view, modes_view, notes_view}}
use Rattle.mpf_config.proofs.ListLoops.{not_among}
use Rattle.mpf_config.proofs.NoteLoops.{one_pushed, is_machine, is_listed, is_neither, one_more, no_more}
use Rattle.mpf_config.proofs.unread.add_unlisted.Goals as goal
use Rattle.mpf_config.proofs.unread.add_unlisted.Goals.{then-ne+then-is_none+in_ok-note+in_ok-push, else-ne}
use Rattle.mpf_config.proofs.unread.add_unlisted.Goals.{else-ne-via-then-ne+else-is_none, else-ne-via-else-ne}

-- the text that a place past the end would have
abbrev nothing : texts.NamedText
nothing = record { name = record { ref_ptr = (0, 0); now = [] }; text = record { ref_ptr = (0, 0); now = [] } }

pub loop-text-preserved : goal.loop-text-preserved
loop-text-preserved c =
    let texts = c.args.texts.now in
    let listed = modes_view c.args.modes.now in
    let i = c.loop-text.text-index in
    let text = get_or texts i nothing in
    let seen = text_view text in
    let name = text.name.now in
    let notes = notes_view c.loop-text.notes in
    let rest = texts_view (drop (i + 1) texts) in
    let all = texts_view (drop i texts) in
    let total = notes_view c.args.notes.now ++ unlisted_notes listed (texts_view texts) in
    let first : all ≡ seen ∷ rest = ap texts_view (drop_more texts i nothing c.loop-text-test.true) in
    let so_far = c.loop-text.invariant in
    elim c.if-ne.branch [
      | then-ne+then-is_none+in_ok-note+in_ok-push w ↦
          let other = sym c.ne.ensures ∙ w.if-ne.true in
          let found = w.mode_of.ensures.found in
          let none = not_among name_view mode_text_of name listed w.mode_of.result w.is_none.result true found
          w.is_none.ensures w.if-is_none.true in
          let now = one_pushed c.loop-text.notes.items w.push.new.self.items w.in_ok-note.note (unlisted_note seen)
          w.in_ok-push.ensures.items w.in_ok-note.ensures in
          rw w.notes-is
          (one_more (is_unlisted listed) unlisted_note notes (notes_view w.push.new.self) seen rest all total now first
          (is_neither listed seen other none) so_far)
      | else-ne w ↦
          elim w.else-ne.branch [
            | else-ne-via-then-ne+else-is_none v ↦
                let other = sym c.ne.ensures ∙ v.if-ne.true in
                let found = v.mode_of.ensures.found in
                let some = not_among name_view mode_text_of name listed v.mode_of.result v.is_none.result false found
                v.is_none.ensures v.if-is_none.false in
                rw w.notes-is (no_more (is_unlisted listed) unlisted_note notes seen rest all total first
                (is_listed listed seen other some) so_far)
            | else-ne-via-else-ne v ↦
                let same = sym c.ne.ensures ∙ v.if-ne.false in
                rw w.notes-is (no_more (is_unlisted listed) unlisted_note notes seen rest all total first
                (is_machine listed seen same) so_far)
          ]
    ]
