use Rattle.std.proofs.Common.{◌≡◌, ℕ, List, ◌++◌, map, drop}
use Rattle.yaml_subset.specs.Keys.{is_among}
use Rattle.mpf_config.specs.View.{name_view}
use Rattle.row_faults.specs.{Reserved.events_of_modes, View.events_view}
use Rattle.row_faults.proofs.reserved.events_of_modes.Given as goal

-- the events so far, and those of the other modes
abbrev pub invariant-loop-mode : goal.invariant-loop-mode
invariant-loop-mode l =
    (q : List ℕ) → is_among (events_view l.events
    ++ events_of_modes (map (λ w. w.text) (map name_view (drop l.mode-index l.modes)))) q
    ≡ is_among (events_of_modes (map (λ w. w.text) (map name_view l.modes))) q
