use Rattle.std.{proofs.Common.{◌≡◌, ◌||◌, ℕ, List, map, drop}, specs.List.list_any}
use Rattle.mpf_sections.specs.{TypedShots.shot_group_of, View.entry_view}
use Rattle.machine_definitions.specs.Found.{is_found}
use Rattle.plan_rows.specs.Seats.{lists_shot}
use Rattle.plan_rows.proofs.seats.take_groups.Given as goal

abbrev pub invariant-loop-group : goal.invariant-loop-group
invariant-loop-group l =
    (name : List ℕ) → (is_found l.names name
    || list_any (lists_shot name) (map shot_group_of (map entry_view (drop l.group-index l.groups))))
    ≡ (is_found l.initial.names name || list_any (lists_shot name) (map shot_group_of (map entry_view l.groups)))
