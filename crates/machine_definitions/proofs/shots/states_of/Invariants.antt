use Rattle.std.{proofs.Common.{◌≡◌, ◌++◌, map, drop}, specs.List.filter_map}
use Rattle.mpf_sections.specs.{TypedShots.state_of, View.fields_view}
use Rattle.machine_definitions.specs.Found.{names_view}
use Rattle.machine_definitions.proofs.shots.states_of.Given as goal

abbrev pub invariant-loop-fields : goal.invariant-loop-fields
invariant-loop-fields l =
    names_view l.states.items ++ map (λ w. w.text) (filter_map state_of (map fields_view (drop l.fields-index l.maps)))
    ≡ map (λ w. w.text) (filter_map state_of (map fields_view l.maps))
