use Rattle.std.proofs.Common.{◌≡◌, ℕ, List, drop, length, []}
use Rattle.yaml_subset.specs.Keys.{is_among}
use Rattle.mpf_config.{specs.{Reading.{modes_from, taken_by, found_of}, Gives.keys_taken}, proofs.NoneBefore.NoneBefore}
use Rattle.mpf_config.specs.CodeViews.{texts_view, copies_view, modes_view, found_modes_view}
use Rattle.mpf_config.proofs.modes.place_all.Given as goal

abbrev pub invariant-loop-text : goal.invariant-loop-text
invariant-loop-text l = record {
  as_long : length l.mode_reads ≡ length l.modes;
  none : NoneBefore (copies_view l.names) (modes_view l.modes) (found_modes_view l.mode_reads);
  known : (q : List ℕ) → is_among (keys_taken l.machine l.known_keys) q
      ≡ is_among (taken_by (keys_taken l.machine l.fn.known_keys) (found_of (found_modes_view l.mode_reads))) q;
  so_far :
      modes_from (keys_taken l.machine l.fn.known_keys) (modes_view l.modes) (copies_view l.names)
      (found_modes_view l.mode_reads) (texts_view (drop l.text-index l.texts))
      ≡ modes_from (keys_taken l.machine l.fn.known_keys) (modes_view l.modes) [] (found_modes_view l.fn.mode_reads)
      (texts_view l.texts);
}
