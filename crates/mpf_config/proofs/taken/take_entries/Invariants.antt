use Rattle.std.proofs.Common.{◌≡◌, ◌||◌, ℕ, List, drop, map}
use Rattle.yaml_subset.specs.Keys.{is_among}
use Rattle.mpf_config.specs.{Apart.{entry_names, entry_keys}, Reading.entries_new_at, CodeViews.copies_view}
use Rattle.mpf_sections.specs.View.{section_view}
use Rattle.mpf_config.proofs.taken.take_entries.Given as goal

abbrev pub invariant-loop-section : goal.invariant-loop-section
invariant-loop-section l = record {
  so_far :
      entries_new_at l.text (copies_view l.known_keys)
      (entry_names (map section_view (drop l.section-index l.sections)))
      ≡ entries_new_at l.text (copies_view l.fn.known_keys) (entry_names (map section_view l.sections));
  known : (q : List ℕ)
      → (is_among (entry_keys (map section_view (drop l.section-index l.sections))) q
      || is_among (copies_view l.known_keys) q)
      ≡ (is_among (entry_keys (map section_view l.sections)) q || is_among (copies_view l.fn.known_keys) q);
}
