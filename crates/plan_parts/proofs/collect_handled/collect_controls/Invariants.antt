use Rattle.std.proofs.Common.{◌≡◌, ◌++◌, map, drop}
use Rattle.mpf_sections.specs.View.{handler_view}
use Rattle.plan_parts.specs.{Devices.events, RowViews.{controlled_by, controls_view}}
use Rattle.plan_parts.proofs.collect_handled.collect_controls.Given as goal

abbrev pub invariant-loop-handler : goal.invariant-loop-handler
invariant-loop-handler l =
    controls_view l.controls.items ++ map (controlled_by l.control)
    (events (map handler_view (drop l.handler-index l.handlers)))
    ≡ controls_view l.initial.controls.items ++ map (controlled_by l.control) (events (map handler_view l.handlers))
