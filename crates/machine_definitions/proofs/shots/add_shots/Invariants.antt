use Rattle.std.proofs.Common.{◌≡◌, ℕ, List, fold, map, drop}
use Rattle.mpf_sections.specs.{TypedShots.shot_of, View.entry_view}
use Rattle.machine_definitions.specs.{Shots.latest_shot, Found.found_shot}
use Rattle.machine_definitions.proofs.shots.add_shots.Given as goal

abbrev pub invariant-loop-entry : goal.invariant-loop-entry
invariant-loop-entry l =
    (name : List ℕ) → fold (latest_shot name) (found_shot l.shots name)
    (map shot_of (map entry_view (drop l.entry-index l.entries)))
    ≡ fold (latest_shot name) (found_shot l.initial.shots name) (map shot_of (map entry_view l.entries))
