use Rattle.std.proofs.Common.{◌≡◌, ◌++◌, map, drop}
use Rattle.mpf_sections.specs.View.{name_view}
use Rattle.plan_parts.specs.{Devices.texts, RowViews.bytes_view}
use Rattle.plan_parts.proofs.collect_balls.collect_switches.Given as goal

abbrev pub invariant-loop-switch : goal.invariant-loop-switch
invariant-loop-switch l = bytes_view l.listens.items ++ texts (map name_view (drop l.switch-index l.switches))
    ≡ bytes_view l.initial.listens.items ++ texts (map name_view l.switches)
