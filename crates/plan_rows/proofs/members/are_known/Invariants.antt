use Rattle.std.{proofs.Common.{◌≡◌, map, drop}, specs.{Prelude.is_some, List.list_all}}
use Rattle.mpf_sections.specs.View.{name_view}
use Rattle.machine_definitions.specs.Shots.{shot_called}
use Rattle.plan_rows.proofs.members.are_known.Given as goal

abbrev pub invariant-loop-shot : goal.invariant-loop-shot
invariant-loop-shot l =
    list_all (λ w. is_some (shot_called l.definitions w.text)) (map name_view (drop l.shot-index l.shots))
    ≡ list_all (λ w. is_some (shot_called l.definitions w.text)) (map name_view l.shots)
