use Rattle.std.{proofs.Common.{◌≡◌, ◌||◌, ℕ, List, map, drop}, specs.{List.list_any, Str.bytes_eq}}
use Rattle.mpf_sections.specs.View.{name_view}
use Rattle.machine_definitions.specs.Found.{is_found}
use Rattle.plan_rows.proofs.seats.take_shots.Given as goal

abbrev pub invariant-loop-shot : goal.invariant-loop-shot
invariant-loop-shot l =
    (name : List ℕ) → (is_found l.names name
    || list_any (λ w. bytes_eq name w.text) (map name_view (drop l.shot-index l.shots)))
    ≡ (is_found l.initial.names name || list_any (λ w. bytes_eq name w.text) (map name_view l.shots))
