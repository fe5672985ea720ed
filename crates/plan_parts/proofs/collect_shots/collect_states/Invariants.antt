use Rattle.std.proofs.Common.{◌≡◌, ◌++◌, map, drop}
use Rattle.plan_parts.specs.{Effects.posts, ShotEntries.group_events, RowViews.bytes_view}
use Rattle.plan_parts.proofs.collect_shots.collect_states.Given as goal

abbrev pub invariant-loop-state : goal.invariant-loop-state
invariant-loop-state l =
    l.lists ++ map (λ state. map posts (group_events l.end l.name state))
    (bytes_view (drop l.state-index l.state-items))
    ≡ l.initial.lists ++ map (λ state. map posts (group_events l.end l.name state)) (bytes_view l.state-items)
