use Rattle.std.proofs.Common.{◌≡◌, take}
use Rattle.mpf_config.specs.{Reading.none_found, CodeViews.{modes_view, found_modes_view}}
use Rattle.mpf_config.proofs.modes.none_found.Given as goal

abbrev pub invariant-loop : goal.invariant-loop
invariant-loop l = found_modes_view l.mode_reads.items ≡ none_found (modes_view (take l.index l.modes))
