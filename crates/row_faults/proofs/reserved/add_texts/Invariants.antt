use Rattle.std.proofs.Common.{◌≡◌, ℕ, List, ◌++◌, map, drop}
use Rattle.yaml_subset.specs.Keys.{is_among}
use Rattle.mpf_config.specs.View.{mode_view}
use Rattle.row_faults.specs.{Reserved.events_of_modes, View.events_view}
use Rattle.row_faults.proofs.reserved.add_texts.Given as goal

-- the events so far, and those of the other modes
abbrev pub invariant-loop-text : goal.invariant-loop-text
invariant-loop-text l =
    (q : List ℕ) → is_among (events_view l.events
    ++ events_of_modes (map (λ m. m.name) (map mode_view (drop l.text-index l.texts)))) q
    ≡ is_among (events_view l.fn.events ++ events_of_modes (map (λ m. m.name) (map mode_view l.texts))) q
