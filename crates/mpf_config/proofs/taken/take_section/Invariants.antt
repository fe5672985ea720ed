use Rattle.std.proofs.Common.{◌≡◌, ◌||◌, ℕ, List, drop, map}
use Rattle.yaml_subset.specs.Keys.{is_among}
use Rattle.mpf_config.specs.Apart.{named_entry, entry_key, entries_named}
use Rattle.mpf_config.specs.{Reading.entries_new_at, CodeViews.copies_view}
use Rattle.mpf_sections.specs.View.{section_view, entry_view}
use Rattle.mpf_config.proofs.taken.take_section.Given as goal

abbrev pub invariant-loop-entry : goal.invariant-loop-entry
invariant-loop-entry l = record {
  so_far :
      entries_new_at l.text (copies_view l.known_keys)
      (map (named_entry l.section.name.items) (map entry_view (drop l.entry-index l.entries)))
      ≡ entries_new_at l.text (copies_view l.fn.known_keys) (entries_named (section_view l.section));
  known : (q : List ℕ)
      → (is_among (map entry_key (map (named_entry l.section.name.items)
      (map entry_view (drop l.entry-index l.entries)))) q || is_among (copies_view l.known_keys) q)
      ≡ (is_among (map entry_key (entries_named (section_view l.section))) q
      || is_among (copies_view l.fn.known_keys) q);
}
