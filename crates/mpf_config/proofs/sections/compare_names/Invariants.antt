use Rattle.std.proofs.Common.{◌≡◌, [], drop, map}
use Rattle.config_faults.specs.Faults.{spot_view}
use Rattle.mpf_config.specs.{Reading.modes_new_at, View.name_view, CodeViews.copies_view}
use Rattle.mpf_config.proofs.sections.compare_names.Given as goal

abbrev pub invariant-loop-mode : goal.invariant-loop-mode
invariant-loop-mode l =
    modes_new_at (spot_view l.spot) (copies_view l.names) (map name_view (drop l.mode-index l.modes))
    ≡ modes_new_at (spot_view l.spot) [] (map name_view l.modes)
