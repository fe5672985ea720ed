use Rattle.std.{proofs.Common.{◌≡◌, ◌++◌, map, drop}, specs.List.flat_map}
use Rattle.mpf_sections.specs.View.{name_view}
use Rattle.machine_definitions.specs.Found.{profile_view}
use Rattle.plan_parts.specs.{Devices.texts, ShotEntries.shot_lists}
use Rattle.plan_parts.proofs.collect_shots.collect_each_shot.Given as goal

abbrev pub invariant-loop-shot : goal.invariant-loop-shot
invariant-loop-shot l =
    l.lists ++ flat_map (shot_lists (profile_view l.profile)) (texts (map name_view (drop l.shot-index l.shots)))
    ≡ l.initial.lists ++ flat_map (shot_lists (profile_view l.profile)) (texts (map name_view l.shots))
