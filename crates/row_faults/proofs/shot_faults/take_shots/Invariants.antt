use Rattle.std.{proofs.Common.{◌≡◌, ◌||◌, ℕ, List, map, drop}, specs.{List.list_any, Str.bytes_eq}}
use Rattle.mpf_sections.specs.{TypedShots.shot_of, View.entry_view}
use Rattle.machine_definitions.specs.Found.{is_found}
use Rattle.row_faults.proofs.shot_faults.take_shots.Given as goal

abbrev pub invariant-loop-entry : goal.invariant-loop-entry
invariant-loop-entry l =
    (name : List ℕ) → (is_found l.shots name
    || list_any (λ s. bytes_eq name s.name.text) (map shot_of (map entry_view (drop l.entry-index l.entries))))
    ≡ (is_found l.initial.shots name || list_any (λ s. bytes_eq name s.name.text)
    (map shot_of (map entry_view l.entries)))
