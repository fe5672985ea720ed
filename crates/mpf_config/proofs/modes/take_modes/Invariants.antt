use Rattle.std.proofs.Common.{◌≡◌, ◌++◌, length, map}
use Rattle.std.specs.{List.flat_map, Vec.Iter.{into_iter_items, into_iter_len}}
use Rattle.mpf_config.specs.{Reading.found_of, View.mode_view, CodeViews.{notes_view, found_modes_view}}
use Rattle.mpf_config.proofs.modes.take_modes.Given as goal

abbrev pub invariant-loop-one : goal.invariant-loop-one
invariant-loop-one l = record {
  left : into_iter_len l.one-iterator ≡ length (into_iter_items l.one-iterator);
  taken :
      map mode_view l.modes.items ++ map (λ m. m.mode) (found_of (found_modes_view (into_iter_items l.one-iterator)))
      ≡ map (λ m. m.mode) (found_of (found_modes_view l.fn.mode_reads.items));
  added :
      notes_view l.notes ++ flat_map (λ m. m.notes) (found_of (found_modes_view (into_iter_items l.one-iterator)))
      ≡ notes_view l.fn.notes ++ flat_map (λ m. m.notes) (found_of (found_modes_view l.fn.mode_reads.items));
}
