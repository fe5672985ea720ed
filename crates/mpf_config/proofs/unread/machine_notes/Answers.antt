use Rattle.std.proofs.Common.{◌+◌, [], ◌∷◌, drop, map, sym, ◌∙◌}
use Rattle.yaml_subset.specs.View.{pair_view}
use Rattle.setting_values.specs.View.{pairs_view}
use Rattle.mpf_config.specs.{BundleText.machine_name, CodeViews.{texts_view, modes_view, notes_view}}
use Rattle.mpf_config.specs.Unread.{absent_of, skipped_note, absent_note, section_notes, machine_notes}
use Rattle.mpf_config.proofs.{Pairs.pairs_at, unread.machine_notes.Goals.else-is_skipped+then-eq+in_ok-add_absent}
use Rattle.mpf_config.proofs.NoteLoops.{one_pushed, on_skipped, on_modes, on_other, more_notes, no_notes}
use Rattle.mpf_config.proofs.unread.machine_notes.Goals as goal
use Rattle.mpf_config.proofs.unread.machine_notes.Goals.{then-is_skipped+in_ok-note+in_ok-push, else-is_skipped+else-eq}

pub loop-section-preserved : goal.loop-section-preserved
loop-section-preserved c =
    let sections = c.args.sections.now in
    let i = c.loop-section.section-index in
    let section = pair_view c.section-item.result in
    let notes = notes_view c.loop-section.notes in
    let modes = modes_view c.args.modes.now in
    let texts = texts_view c.args.texts.now in
    let absent = map absent_note (absent_of texts modes) in
    let notes_on = section_notes machine_name absent in
    let rest = pairs_view (drop (i + 1) sections) in
    let all = pairs_view (drop i sections) in
    let total = machine_notes texts modes (pairs_view sections) in
    let first = pairs_at sections i c.section-item.result c.loop-section-test.true c.section-item.is in
    let name = c.as_slice-name.ensures.value in
    let skips = rw name at c.is_skipped.ensures in
    let so_far = c.loop-section.invariant in
    elim c.if-is_skipped.branch [
      | then-is_skipped+in_ok-note+in_ok-push w ↦
          let note = skipped_note machine_name section in
          let now = one_pushed c.loop-section.notes.items w.push.new.self.items w.in_ok-note.note note
          w.in_ok-push.ensures.items w.in_ok-note.ensures in
          let one = on_skipped machine_name absent section (sym skips ∙ w.if-is_skipped.true) in
          rw w.notes-is (more_notes notes_on notes (notes_view w.push.new.self) section rest all total (note ∷ []) now
          first one so_far)
      | else-is_skipped+then-eq+in_ok-add_absent w ↦
          let same = rw name at (sym w.eq.ensures ∙ w.if-eq.true) in
          let now = w.in_ok-add_absent.ensures.adds in
          let those = on_modes machine_name absent section (sym skips ∙ w.if-is_skipped.false) same in
          rw w.notes-is (more_notes notes_on notes (notes_view w.add_absent.new.notes) section rest all total absent now
          first those so_far)
      | else-is_skipped+else-eq w ↦
          let other = rw name at (sym w.eq.ensures ∙ w.if-eq.false) in
          let none = on_other machine_name absent section (sym skips ∙ w.if-is_skipped.false) other in
          rw w.notes-is (no_notes notes_on notes section rest all total first none so_far)
    ]
